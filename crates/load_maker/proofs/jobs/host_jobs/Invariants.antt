use Rattle.std.proofs.Common.{◌≡◌, ◌≤◌, ◌+◌, ◌*◌, ◌++◌, length}
use Rattle.std.specs.List.{flat_map}
use Rattle.load_maker.specs.Load.{before_job, dealt, job_blocks, jobs_from}
use Rattle.load_maker.proofs.jobs.host_jobs.Given as goal

abbrev pub invariant-loop-i : goal.invariant-loop-i
invariant-loop-i l =
    (l.state ≡ before_job l.n l.i)
    × (l.jobs.items ≡ jobs_from (length l.initial.blocks.items) (dealt l.n l.host l.i))
    × (l.blocks.items ≡ l.initial.blocks.items ++ flat_map job_blocks (dealt l.n l.host l.i))
    × (length l.blocks.items ≤ length l.initial.blocks.items + 8 * l.i)
