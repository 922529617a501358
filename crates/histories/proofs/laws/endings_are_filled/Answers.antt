use Rattle.histories.proofs.endings.EndingLemmas.{endings_are_filled}
use Rattle.histories.proofs.laws.endings_are_filled.Goals as goal

-- src/laws.rt:28:1
pub returns : goal.returns
returns c = endings_are_filled
