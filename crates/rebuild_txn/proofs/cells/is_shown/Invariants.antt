use Rattle.std.proofs.Common.{◌≡◌, drop}
use Rattle.attempts.specs.Mending.{is_shown}
use Rattle.rebuild_txn.proofs.cells.is_shown.Given as goal

abbrev pub invariant-loop-hold : goal.invariant-loop-hold
invariant-loop-hold l = is_shown l.bay (drop l.hold-index l.holds) ≡ is_shown l.bay l.holds
