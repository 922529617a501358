pub mod SlotLemmas
pub mod VerdictLemmas
pub mod RecoverLemmas
