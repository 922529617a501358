-- What an attempt has committed by its end.
pub mod Effects
pub mod EffectsLaws
pub mod EffectsMade
pub mod EffectsPuts
pub mod EffectsWrites
