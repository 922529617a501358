use Rattle.row_laws.proofs.owners.HoldingLaws.{holders_keep_notes}
use Rattle.row_laws.proofs.laws.holders_keep_notes.Goals as goal

pub returns : goal.returns
returns c = holders_keep_notes
