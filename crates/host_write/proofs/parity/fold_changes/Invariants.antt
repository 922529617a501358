use Rattle.std.proofs.Common.{◌≡◌, drop}
use Rattle.attempts.specs.Puts.{folded}
use Rattle.host_write.proofs.parity.fold_changes.Given as goal

abbrev pub invariant-loop-i : goal.invariant-loop-i
invariant-loop-i l = folded l.acc (drop l.i l.units) (drop l.i l.grants) (drop l.i l.blocks) ≡ folded l.fn.parity l.units l.grants l.blocks
