use Rattle.std.proofs.Common.{◌≡◌, take, length}
use Rattle.attempts.specs.Mending.{cells_of}
use Rattle.rebuild_txn.proofs.cells.cells_of.Given as goal

abbrev pub invariant-loop-hold : goal.invariant-loop-hold
invariant-loop-hold l = (l.cells.items ≡ cells_of (take l.hold-index l.holds)) × (length l.cells.items ≡ l.hold-index)
