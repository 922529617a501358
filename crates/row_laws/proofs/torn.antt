-- Lost blocks are of torn rows.
pub mod RecoveryFinds
pub mod TornEndings
pub mod TornNotes
pub mod TornTrees
