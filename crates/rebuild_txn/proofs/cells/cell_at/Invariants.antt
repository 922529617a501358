use Rattle.std.proofs.Common.{◌≡◌, drop}
use Rattle.attempts.specs.Mending.{cell_at}
use Rattle.rebuild_txn.proofs.cells.cell_at.Given as goal

abbrev pub invariant-loop-hold : goal.invariant-loop-hold
invariant-loop-hold l = cell_at l.bay (drop l.hold-index l.holds) ≡ cell_at l.bay l.holds
