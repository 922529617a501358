-- What results tell.
pub mod HostResults
pub mod ResultBlocks
pub mod ResultEffects
pub mod ResultHands
pub mod ResultNumbers
pub mod ResultSteps
pub mod ResultTells
pub mod ResultWalks
pub mod Stories
