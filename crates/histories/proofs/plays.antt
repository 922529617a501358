-- Plays of turns, and the histories that they give.
pub mod OtherTurns
pub mod PlayedHistories
pub mod SimulatedHistories
pub mod ToldFaults
