use Rattle.std.proofs.Common.{◌≡◌, ◌≤◌, take, length}
use Rattle.attempts.specs.Mending.{holds_but}
use Rattle.rebuild_txn.proofs.slots.holds_but.Given as goal

abbrev pub invariant-loop-hold : goal.invariant-loop-hold
invariant-loop-hold l = (l.others.items ≡ holds_but l.fn.bay (take l.hold-index l.holds)) × (length l.others.items ≤ l.hold-index)
