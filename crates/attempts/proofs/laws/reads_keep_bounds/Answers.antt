use Rattle.attempts.proofs.ReadObeys.{reads_keep_bounds}
use Rattle.attempts.proofs.laws.reads_keep_bounds.Goals as goal

-- src/laws.rt:14:1
pub returns : goal.returns
returns c = reads_keep_bounds
