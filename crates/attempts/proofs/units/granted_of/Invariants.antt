use Rattle.std.proofs.Common.{◌≡◌, ◌≤◌, ◌++◌, length, drop, zip}
use Rattle.attempts.specs.Releases.{granted_of}
use Rattle.attempts.proofs.units.granted_of.Given as goal

abbrev pub invariant-loop-i : goal.invariant-loop-i
invariant-loop-i l = (length l.granted.items ≤ l.i) × (l.granted.items ++ granted_of (zip (drop l.i l.units) (drop l.i l.grants)) ≡ granted_of (zip l.units l.grants))
