pub mod AttemptLemmas
pub mod HostLemmas
pub mod TakeLemmas
pub mod ReadyLemmas
pub mod ReadLemmas
