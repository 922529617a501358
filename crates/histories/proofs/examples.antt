-- Small scripts and what their plays show, worked out.
pub mod DegradedCalls
pub mod Heads
pub mod LockRows
pub mod LossRows
pub mod OrderRows
pub mod StopRows
