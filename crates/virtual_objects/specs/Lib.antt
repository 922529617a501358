pub mod Objects
pub mod Table
pub mod Marks
pub mod RowParts
pub mod Places
