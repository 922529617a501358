pub mod Stages
pub mod Verdicts
pub mod Left
pub mod Tries
