-- Numbers stay small.
pub mod SmallAttempts
pub mod SmallHistory
pub mod SmallHosts
pub mod SmallSlots
