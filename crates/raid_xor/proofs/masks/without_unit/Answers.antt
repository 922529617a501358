use Rattle.std.proofs.Common.{◌∙◌, sym}
use Rattle.std.proofs.lemmas.Nat.{one_shl}
use Rattle.raid_xor.proofs.UnitBits.{le_of_has}
use Rattle.raid_xor.proofs.masks.without_unit.Goals as goal

pub overflow_sub-result : goal.overflow_sub-result
overflow_sub-result c = rw (one_shl c.args.unit 16 c.requires) (le_of_has c.args.mask c.args.unit (sym c.has_unit.ensures ∙ c.if-has_unit.true))
