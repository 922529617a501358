use Rattle.attempts.proofs.RepairReturns.{rebuilds_return}
use Rattle.attempts.proofs.laws.rebuilds_return.Goals as goal

pub returns : goal.returns
returns c = rebuilds_return
