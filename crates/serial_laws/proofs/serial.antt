-- Every play is serial.
pub mod Latest
pub mod Placed
pub mod Serial
