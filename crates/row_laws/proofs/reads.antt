-- What reads find.
pub mod ReadFloors
pub mod ReadShares
pub mod ReadSlots
pub mod ReadingTrees
