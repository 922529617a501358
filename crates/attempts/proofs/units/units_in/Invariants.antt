use Rattle.std.proofs.Common.{◌≡◌, ◌≤◌, length}
use Rattle.std.specs.List.{range_with_len, filter}
use Rattle.raid_base.specs.Cells.{has_unit}
use Rattle.attempts.proofs.units.units_in.Given as goal

abbrev pub invariant-loop-unit : goal.invariant-loop-unit
invariant-loop-unit l = (length l.units.items ≤ l.unit) × (l.units.items ≡ filter (has_unit l.mask) (range_with_len 0 l.unit))
