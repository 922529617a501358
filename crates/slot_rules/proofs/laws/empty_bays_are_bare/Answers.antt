use Rattle.slot_rules.proofs.ReplayLaws.{empty_bays_are_bare_lem}
use Rattle.slot_rules.proofs.laws.empty_bays_are_bare.Goals as goal

pub returns : goal.returns
returns c = empty_bays_are_bare_lem
