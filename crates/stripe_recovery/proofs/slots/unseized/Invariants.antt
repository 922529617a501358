use Rattle.std.proofs.Common.{◌≡◌, ◌≤◌, ◌++◌, length, drop, zip}
use Rattle.attempts.specs.Recovery.{unseized}
use Rattle.stripe_recovery.proofs.slots.unseized.Given as goal

abbrev pub invariant-loop-i : goal.invariant-loop-i
invariant-loop-i l = (length l.kept.items ≤ l.i) × (l.kept.items ++ unseized (zip (drop l.i l.units) (drop l.i l.grants)) ≡ unseized (zip l.units l.grants))
