use Rattle.attempts.proofs.ReadPhases.{reads_keep_phases}
use Rattle.attempts.proofs.laws.reads_keep_phases.Goals as goal

pub returns : goal.returns
returns c = reads_keep_phases
