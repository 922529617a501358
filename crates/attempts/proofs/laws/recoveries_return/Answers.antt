use Rattle.attempts.proofs.RepairReturns.{recoveries_return}
use Rattle.attempts.proofs.laws.recoveries_return.Goals as goal

pub returns : goal.returns
returns c = recoveries_return
