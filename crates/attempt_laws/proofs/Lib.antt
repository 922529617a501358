pub mod calm
pub mod leftovers
pub mod lone
pub mod plans
pub mod rescues
