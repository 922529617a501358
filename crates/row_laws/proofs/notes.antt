-- Where notes stand, and from where they came.
pub mod BlankNotes
pub mod NoteUnits
