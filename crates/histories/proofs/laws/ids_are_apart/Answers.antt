use Rattle.histories.proofs.accesses.AccessIds.{ids_are_apart}
use Rattle.histories.proofs.laws.ids_are_apart.Goals as goal

pub returns : goal.returns
returns c = ids_are_apart
