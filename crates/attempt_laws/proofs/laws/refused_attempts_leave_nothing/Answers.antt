use Rattle.attempt_laws.proofs.rescues.NoteBays.{refused_attempts_leave_nothing}
use Rattle.attempt_laws.proofs.laws.refused_attempts_leave_nothing.Goals as goal

pub returns : goal.returns
returns c = refused_attempts_leave_nothing
