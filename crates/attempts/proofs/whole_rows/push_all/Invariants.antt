use Rattle.std.proofs.Common.{◌≡◌, ◌++◌, ◌+◌, take, length}
use Rattle.attempts.proofs.whole_rows.push_all.Given as goal

abbrev pub invariant-loop-bay : goal.invariant-loop-bay
invariant-loop-bay l = (l.bays.items ≡ l.initial.bays.items ++ take l.bay-index l.more) × (length l.bays.items ≡ length l.initial.bays.items + l.bay-index)
