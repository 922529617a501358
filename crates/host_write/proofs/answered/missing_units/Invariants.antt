use Rattle.std.proofs.Common.{◌≡◌, ◌≤◌, ◌++◌, length, drop, zip}
use Rattle.attempts.specs.Puts.{missing_units}
use Rattle.host_write.proofs.answered.missing_units.Given as goal

abbrev pub invariant-loop-i : goal.invariant-loop-i
invariant-loop-i l = (length l.missing.items ≤ l.i) × (l.missing.items ++ missing_units (zip (drop l.i l.units) (drop l.i l.grants)) ≡ missing_units (zip l.units l.grants))
