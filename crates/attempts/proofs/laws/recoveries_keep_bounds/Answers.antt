use Rattle.attempts.proofs.RepairObeys.{recoveries_keep_bounds}
use Rattle.attempts.proofs.laws.recoveries_keep_bounds.Goals as goal

pub returns : goal.returns
returns c = recoveries_keep_bounds
