use Rattle.std.proofs.Common.{◌≡◌, ◌++◌, ◌+◌, take, length}
use Rattle.host_write.proofs.answered.parity_units.Given as goal

abbrev pub invariant-loop-unit : goal.invariant-loop-unit
invariant-loop-unit l = (l.units.items ≡ l.initial.units.items ++ take l.unit-index l.left) × (length l.units.items ≡ length l.initial.units.items + l.unit-index)
