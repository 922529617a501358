-- What a report's text tells: all that a play gives keeps its range.
pub mod PlayMoments
pub mod HolderSlots
pub mod CallRanges
pub mod CauseRanges
pub mod ClosingTrees
pub mod ClosingWrites
pub mod HostEnds
pub mod NumberEnds
pub mod ContentRanges
pub mod JobRanges
pub mod BlockRanges
pub mod EndRanges
pub mod ToldReports
