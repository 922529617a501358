use Rattle.slot_rules.proofs.RowSteps.{slots_step_lem}
use Rattle.slot_rules.proofs.laws.slots_step.Goals as goal

pub returns : goal.returns
returns c = slots_step_lem
