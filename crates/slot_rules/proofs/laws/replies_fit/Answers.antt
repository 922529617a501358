use Rattle.slot_rules.proofs.RuleLaws.{replies_fit_lem}
use Rattle.slot_rules.proofs.laws.replies_fit.Goals as goal

pub returns : goal.returns
returns c = replies_fit_lem
