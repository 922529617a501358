use Rattle.std.proofs.Common.{◌≡◌, ◌-◌, length}
use Rattle.clock_merge.specs.Heads.{entries_in}
use Rattle.clock_merge.proofs.LinesSoFar.{Merging}
use Rattle.clock_merge.proofs.merging.merge_slices.Given as goal

abbrev pub invariant-lines : goal.invariant-lines
invariant-lines l = record {
  merging : Merging (entries_in l.journals) l.places l.fn.turns.items l.turns.items;
  room : l.turns.room ≡ l.fn.turns.room;
  long : length l.places ≡ 16;
}

abbrev pub decreases-lines : goal.decreases-lines
decreases-lines l = l.turns.room - length l.turns.items
