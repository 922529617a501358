use Rattle.std.proofs.Common.{◌≡◌, length}
use Rattle.std.specs.List.{range_with_len}
use Rattle.attempts.proofs.whole_rows.all_units.Given as goal

abbrev pub invariant-loop-unit : goal.invariant-loop-unit
invariant-loop-unit l = (length l.units.items ≡ l.unit) × (l.units.items ≡ range_with_len 0 l.unit)
