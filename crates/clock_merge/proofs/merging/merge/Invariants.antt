use Rattle.std.proofs.Common.{◌≡◌, take, map}
use Rattle.clock_merge.specs.Heads.{entries_in}
use Rattle.clock_merge.proofs.merging.merge.Given as goal

abbrev pub invariant-loop-journal : goal.invariant-loop-journal
invariant-loop-journal l = entries_in l.slices.items ≡ take l.journal-index (map (λ journal. journal.items) l.journals)
