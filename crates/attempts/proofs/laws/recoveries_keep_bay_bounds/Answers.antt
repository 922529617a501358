use Rattle.attempts.proofs.RepairBays.{recoveries_keep_bay_bounds}
use Rattle.attempts.proofs.laws.recoveries_keep_bay_bounds.Goals as goal

pub returns : goal.returns
returns c = recoveries_keep_bay_bounds
