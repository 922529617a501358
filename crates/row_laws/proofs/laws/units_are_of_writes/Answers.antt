use Rattle.row_laws.proofs.notes.NoteUnits.{units_are_of_writes}
use Rattle.row_laws.proofs.laws.units_are_of_writes.Goals as goal

pub returns : goal.returns
returns c = units_are_of_writes
