use Rattle.attempts.proofs.RepairObeys.{rebuilds_keep_bounds}
use Rattle.attempts.proofs.laws.rebuilds_keep_bounds.Goals as goal

pub returns : goal.returns
returns c = rebuilds_keep_bounds
