use Rattle.attempts.proofs.NumberingLemmas.{draws-above}
use Rattle.attempts.proofs.laws.numbers_are_above.Goals as goal

pub returns : goal.returns
returns c = draws-above
