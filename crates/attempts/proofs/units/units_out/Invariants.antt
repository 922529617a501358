use Rattle.std.proofs.Common.{◌≡◌, ◌≤◌, not, length}
use Rattle.std.specs.List.{range_with_len, filter}
use Rattle.raid_base.specs.Cells.{has_unit}
use Rattle.attempts.proofs.units.units_out.Given as goal

abbrev pub invariant-loop-unit : goal.invariant-loop-unit
invariant-loop-unit l = (length l.units.items ≤ l.unit) × (l.units.items ≡ filter (λ unit. not (has_unit l.mask unit)) (range_with_len 0 l.unit))
