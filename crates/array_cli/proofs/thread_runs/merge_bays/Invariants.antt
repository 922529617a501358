use Rattle.std.proofs.Common.{◌≡◌, take, map}
use Rattle.clock_merge.specs.Heads.{entries_in}
use Rattle.array_cli.proofs.thread_runs.merge_bays.Given as goal

abbrev pub invariant-loop-bay : goal.invariant-loop-bay
invariant-loop-bay g l = entries_in l.journals.items ≡ take l.bay-index (map (λ bay. bay.journal.items) l.bays)
