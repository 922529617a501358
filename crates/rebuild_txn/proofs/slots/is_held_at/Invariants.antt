use Rattle.std.proofs.Common.{◌≡◌, drop}
use Rattle.attempts.specs.Mending.{is_held_at}
use Rattle.rebuild_txn.proofs.slots.is_held_at.Given as goal

abbrev pub invariant-loop-hold : goal.invariant-loop-hold
invariant-loop-hold l = is_held_at (drop l.hold-index l.holds) l.bay ≡ is_held_at l.holds l.bay
