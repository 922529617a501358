pub mod World
pub mod Making
pub mod Plays
pub mod Rows
pub mod Gathering
pub mod Reported
pub mod Parts
