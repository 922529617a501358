use Rattle.clock_merge.specs.Heads.{heads_at, entries_in, IsFirst}
use Rattle.clock_merge.proofs.merging.first_head.Given as goal

abbrev pub invariant-loop-bay : goal.invariant-loop-bay
invariant-loop-bay l = IsFirst (heads_at (entries_in l.journals) l.places) l.bay l.first
