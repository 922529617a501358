use Rattle.attempts.proofs.WritePhases.{writes_keep_phases}
use Rattle.attempts.proofs.laws.writes_keep_phases.Goals as goal

pub returns : goal.returns
returns c = writes_keep_phases
