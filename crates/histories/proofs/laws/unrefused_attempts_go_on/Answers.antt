use Rattle.histories.proofs.completeness.CompleteSteps.{unrefused_attempts_go_on}
use Rattle.histories.proofs.laws.unrefused_attempts_go_on.Goals as goal

pub returns : goal.returns
returns c = unrefused_attempts_go_on
