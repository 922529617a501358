-- Calm plays close their rows.
pub mod CalmBays
pub mod CalmHosts
pub mod CalmSlots
pub mod CalmSteps
pub mod CalmTrees
