use Rattle.row_laws.proofs.notes.BlankNotes.{blank_notes_mend}
use Rattle.row_laws.proofs.laws.blank_notes_mend.Goals as goal

pub returns : goal.returns
returns c = blank_notes_mend
