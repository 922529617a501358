use Rattle.histories.proofs.accesses.AccessCovers.{accesses_are_covered}
use Rattle.histories.proofs.laws.accesses_are_covered.Goals as goal

pub returns : goal.returns
returns c = accesses_are_covered
