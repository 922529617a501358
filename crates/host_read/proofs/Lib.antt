pub mod ReadLemmas
pub mod TryLemmas
