use Rattle.std.proofs.Common.{◌≡◌, drop, zip}
use Rattle.attempts.specs.Puts.{life_in}
use Rattle.host_write.proofs.answered.life_in.Given as goal

abbrev pub invariant-loop-i : goal.invariant-loop-i
invariant-loop-i l = life_in l.unit (zip (drop l.i l.units) (drop l.i l.grants)) ≡ life_in l.unit (zip l.units l.grants)
