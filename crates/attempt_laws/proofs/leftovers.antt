-- A refused attempt leaves nothing.
pub mod LeftBays
pub mod LeftHosts
pub mod LeftLeaves
pub mod LeftTrees
pub mod UnderWay
