use Rattle.std.proofs.Common.{◌≡◌, ◌≤◌, take, length, filter}
use Rattle.attempts.specs.Mending.{is_held_at}
use Rattle.rebuild_txn.proofs.slots.held_bays.Given as goal

abbrev pub invariant-loop-bay : goal.invariant-loop-bay
invariant-loop-bay l = (l.bays.items ≡ filter (is_held_at l.holds) (take l.bay-index l.bay-items)) × (length l.bays.items ≤ l.bay-index)
