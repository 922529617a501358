pub mod Calm
pub mod Leftovers
pub mod Lone
pub mod Plans
pub mod Rescues
