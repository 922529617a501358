pub mod KeepLemmas
pub mod ServeLemmas
pub mod JournalLemmas
pub mod BayLemmas
