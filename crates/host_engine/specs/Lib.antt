pub mod Parts
pub mod Left
pub mod Stands
pub mod Ready
pub mod Reads
