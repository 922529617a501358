pub mod Accesses
pub mod Load
pub mod Summary
pub mod Tallies
