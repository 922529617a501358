use Rattle.row_laws.proofs.owners.HoldingLaws.{putters_own_rows}
use Rattle.row_laws.proofs.laws.putters_own_rows.Goals as goal

pub returns : goal.returns
returns c = putters_own_rows
