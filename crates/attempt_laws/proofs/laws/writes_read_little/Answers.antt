use Rattle.attempt_laws.proofs.plans.PlanTrees.{writes_read_little}
use Rattle.attempt_laws.proofs.laws.writes_read_little.Goals as goal

pub returns : goal.returns
returns c = writes_read_little
