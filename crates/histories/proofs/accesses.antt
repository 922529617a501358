-- The accesses of a slot and the ids of attempts.
pub mod AccessCovers
pub mod AccessHosts
pub mod AccessIds
pub mod AccessTrees
