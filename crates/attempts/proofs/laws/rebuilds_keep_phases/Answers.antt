use Rattle.attempts.proofs.RepairPhases.{rebuilds_keep_phases}
use Rattle.attempts.proofs.laws.rebuilds_keep_phases.Goals as goal

pub returns : goal.returns
returns c = rebuilds_keep_phases
