-- Puts are covered.
pub mod CoveredPuts
pub mod CoveredPutsHands
pub mod CoveredPutsSlots
