pub mod Merge
pub mod Tied
pub mod Heads
pub mod Turns
pub mod Rising
