use Rattle.attempts.proofs.NumberingLemmas.{seen-covers}
use Rattle.attempts.proofs.laws.seen_numbers_are_covered.Goals as goal

pub returns : goal.returns
returns c = seen-covers
