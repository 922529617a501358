use Rattle.row_laws.proofs.owners.OwnedPuts.{puts_are_of_owners}
use Rattle.row_laws.proofs.laws.puts_are_of_owners.Goals as goal

pub returns : goal.returns
returns c = puts_are_of_owners
