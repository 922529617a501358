mod ObjectRows
pub mod HeldLemmas
pub mod MarkLemmas
pub mod TableLemmas
pub mod MaskLemmas
pub mod PartLemmas
pub mod JobLemmas
pub mod PlaceLemmas
