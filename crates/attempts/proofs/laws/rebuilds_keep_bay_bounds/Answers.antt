use Rattle.attempts.proofs.RepairBays.{rebuilds_keep_bay_bounds}
use Rattle.attempts.proofs.laws.rebuilds_keep_bay_bounds.Goals as goal

pub returns : goal.returns
returns c = rebuilds_keep_bay_bounds
