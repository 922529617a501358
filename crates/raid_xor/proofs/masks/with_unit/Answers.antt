use Rattle.std.proofs.Common.{◌∙◌, sym, arith}
use Rattle.std.proofs.lemmas.Nat.{one_shl}
use Rattle.raid_xor.proofs.UnitBits.{room_of_not}
use Rattle.raid_xor.proofs.masks.with_unit.Goals as goal

pub overflow_add-result : goal.overflow_add-result
overflow_add-result c =
    let room = room_of_not c.args.mask c.args.unit 16 (sym c.has_unit.ensures ∙ c.if-has_unit.false) (omega arith) c.requires in
    rw (one_shl c.args.unit 16 c.requires) (omega arith)
