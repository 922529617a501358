-- Completeness: what no reply refused is done.
pub mod CompleteCauses
pub mod CompleteHistory
pub mod CompletePlain
pub mod CompleteReads
pub mod CompleteSteps
pub mod CompleteWalks
pub mod CompleteWrites
