use Rattle.row_laws.proofs.covered.CoveredPuts.{puts_are_covered}
use Rattle.row_laws.proofs.laws.puts_are_covered.Goals as goal

pub returns : goal.returns
returns c = puts_are_covered
