pub mod Marks
pub mod SoundRows
pub mod Writes
pub mod RowUnits
