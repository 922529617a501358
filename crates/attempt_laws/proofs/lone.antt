-- One host alone is never refused.
pub mod LoneBays
pub mod LoneHosts
pub mod LoneReads
pub mod LoneRows
pub mod LoneSlots
pub mod LoneWalks
pub mod LoneWrites
