use Rattle.std.proofs.Common.{◌≡◌, drop, zip}
use Rattle.attempts.specs.Recovery.{is_put}
use Rattle.stripe_recovery.proofs.verdict.is_put.Given as goal

abbrev pub invariant-loop-i : goal.invariant-loop-i
invariant-loop-i l = is_put l.note (zip (drop l.i l.units) (drop l.i l.grants)) ≡ is_put l.note (zip l.units l.grants)
