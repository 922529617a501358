use Rattle.std.proofs.Common.{◌≡◌, ◌++◌, ◌+◌, map, take, length}
use Rattle.stripe_layout.specs.Placement.{bay_of}
use Rattle.attempts.proofs.holds.push_bays.Given as goal

abbrev pub invariant-loop-unit : goal.invariant-loop-unit
invariant-loop-unit l = (l.bays.items ≡ l.initial.bays.items ++ map (bay_of l.n l.row) (take l.unit-index l.units)) × (length l.bays.items ≡ length l.initial.bays.items + l.unit-index)
