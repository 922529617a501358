pub mod BlockLemmas
pub mod OrderedLemmas
pub mod EffectLemmas
