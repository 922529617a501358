pub mod XorLemmas
pub mod UnitBits
pub mod Parities
