-- Causes: each result that gives a cause has it.
pub mod CauseLemmas
pub mod HostCauses
pub mod ReadCauses
pub mod RepairCauses
pub mod SpentDraws
pub mod WriteCauses
