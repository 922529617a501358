pub mod Script
pub mod Text
pub mod Ranges
pub mod Weights
pub mod Forms
pub mod Faults
pub mod Steps
pub mod Beginnings
