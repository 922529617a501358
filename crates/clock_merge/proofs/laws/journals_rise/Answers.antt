use Rattle.clock_merge.proofs.JournalsRise.{journals_rise}
use Rattle.clock_merge.proofs.laws.journals_rise.Goals as goal

pub returns : goal.returns
returns c = journals_rise
