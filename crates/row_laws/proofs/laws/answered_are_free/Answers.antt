use Rattle.row_laws.proofs.owners.HoldingLaws.{answered_are_free}
use Rattle.row_laws.proofs.laws.answered_are_free.Goals as goal

pub returns : goal.returns
returns c = answered_are_free
