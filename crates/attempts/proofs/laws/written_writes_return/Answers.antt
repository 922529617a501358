use Rattle.attempts.proofs.WrittenReturns.{written_writes_return}
use Rattle.attempts.proofs.laws.written_writes_return.Goals as goal

pub returns : goal.returns
returns c = written_writes_return
