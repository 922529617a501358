use Rattle.attempts.proofs.WriteObeys.{writes_keep_bounds}
use Rattle.attempts.proofs.laws.writes_keep_bounds.Goals as goal

-- src/laws.rt:20:1
pub returns : goal.returns
returns c = writes_keep_bounds
