use Rattle.histories.proofs.smallness.SmallHistory.{numbers_stay_small}
use Rattle.histories.proofs.laws.numbers_stay_small.Goals as goal

-- src/laws.rt:41:1
pub returns : goal.returns
returns c = numbers_stay_small
