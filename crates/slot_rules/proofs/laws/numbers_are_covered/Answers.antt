use Rattle.slot_rules.proofs.ReplayLaws.{numbers_are_covered_lem}
use Rattle.slot_rules.proofs.laws.numbers_are_covered.Goals as goal

pub returns : goal.returns
returns c = numbers_are_covered_lem
