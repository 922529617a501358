use Rattle.attempts.proofs.WriteReturns.{writes_return}
use Rattle.attempts.proofs.laws.writes_return.Goals as goal

pub returns : goal.returns
returns c = writes_return
