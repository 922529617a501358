use Rattle.attempts.proofs.ReadBays.{reads_keep_bay_bounds}
use Rattle.attempts.proofs.laws.reads_keep_bay_bounds.Goals as goal

pub returns : goal.returns
returns c = reads_keep_bay_bounds
