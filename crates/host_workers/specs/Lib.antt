pub mod Workers
pub mod Playing
pub mod Passing
