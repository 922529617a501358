pub mod Commits
pub mod Effects
pub mod Hands
pub mod Holding
pub mod Laws
