use Rattle.slot_rules.proofs.RuleLaws.{refusals_lem}
use Rattle.slot_rules.proofs.laws.refusals_leave_the_bay.Goals as goal

pub returns : goal.returns
returns c = refusals_lem
