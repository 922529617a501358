use Rattle.attempts.proofs.ReadReturns.{reads_return}
use Rattle.attempts.proofs.laws.reads_return.Goals as goal

pub returns : goal.returns
returns c = reads_return
