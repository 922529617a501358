-- Who holds units, and who finds them.
pub mod AnsweredFree
pub mod AnsweredFreeHands
pub mod AnsweredFreeNotes
pub mod HolderNotes
pub mod HolderNotesCalls
pub mod HolderNotesHands
pub mod HolderNotesSlots
pub mod HolderNotesTrees
