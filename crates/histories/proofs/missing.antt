-- One bay is missing at most.
pub mod MissingBays
pub mod MissingHosts
pub mod MissingRebuilds
pub mod MissingSlots
pub mod MissingTrees
