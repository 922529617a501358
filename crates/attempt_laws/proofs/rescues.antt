-- What recoveries leave.
pub mod NoteBays
pub mod NoteHosts
pub mod NoteTrees
pub mod RescueBays
pub mod RescueHosts
pub mod RescueSlots
pub mod RescueTrees
