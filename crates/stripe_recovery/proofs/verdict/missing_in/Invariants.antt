use Rattle.std.proofs.Common.{◌≡◌, drop, zip}
use Rattle.attempts.specs.Recovery.{missing_in}
use Rattle.stripe_recovery.proofs.verdict.missing_in.Given as goal

abbrev pub invariant-loop-i : goal.invariant-loop-i
invariant-loop-i l = missing_in (zip (drop l.i l.units) (drop l.i l.grants)) ≡ missing_in (zip l.units l.grants)
