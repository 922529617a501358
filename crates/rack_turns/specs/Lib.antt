pub mod Views
pub mod Shadows
pub mod Ruling
pub mod Plays
pub mod Passes
pub mod Closing
