pub mod Handling
pub mod Making
