use Rattle.std.proofs.Common.{◌≡◌, ◌≤◌, ◌||◌, length}
use Rattle.std.specs.List.{range_with_len, filter}
use Rattle.attempts.specs.Releases.{is_among}
use Rattle.attempts.proofs.units.ascending.Given as goal

abbrev pub invariant-loop-unit : goal.invariant-loop-unit
invariant-loop-unit l = (length l.units.items ≤ l.unit) × (l.units.items ≡ filter (λ unit. is_among l.first unit || is_among l.second unit) (range_with_len 0 l.unit))
