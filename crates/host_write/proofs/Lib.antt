pub mod ParityLemmas
pub mod PutLemmas
pub mod ClaimLemmas
pub mod PuttingLemmas
pub mod DrawnLemmas
pub mod AnsweredLemmas
pub mod TryLemmas
