pub mod NumberLemmas
pub mod BlockLemmas
pub mod WordLemmas
pub mod LineLemmas
pub mod WriteLemmas
