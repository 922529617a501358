pub mod Missing
pub mod Rows
pub mod Kinds
pub mod Laws
