use Rattle.attempts.proofs.RepairPhases.{recoveries_keep_phases}
use Rattle.attempts.proofs.laws.recoveries_keep_phases.Goals as goal

pub returns : goal.returns
returns c = recoveries_keep_phases
