-- What a host has in hand.
pub mod Attempting
pub mod HandSteps
pub mod PhasedHands
pub mod Settled
