-- Reads see and tell what is below them.
pub mod BareReads
pub mod BelowRows
pub mod Counted
pub mod CountedShown
pub mod Late
pub mod ParityReads
pub mod ReadCells
pub mod Seeing
pub mod ShownHands
pub mod ShownTrees
pub mod Telling
pub mod UnitReads
