-- Endings: a job that has ended has what it is due.
pub mod EndingCalls
pub mod EndingLemmas
