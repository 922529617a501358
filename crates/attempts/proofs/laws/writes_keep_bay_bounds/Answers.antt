use Rattle.attempts.proofs.WriteBays.{writes_keep_bay_bounds}
use Rattle.attempts.proofs.laws.writes_keep_bay_bounds.Goals as goal

pub returns : goal.returns
returns c = writes_keep_bay_bounds
