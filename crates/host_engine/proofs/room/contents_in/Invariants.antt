use Rattle.std.proofs.Common.{◌≡◌, ◌≤◌, ◌*◌, take}
use Rattle.std.specs.Prelude.{sum_by}
use Rattle.histories.specs.Bounds.{job_contents}
use Rattle.host_engine.proofs.room.contents_in.Given as goal

abbrev pub invariant-loop-job : goal.invariant-loop-job
invariant-loop-job l = record { sum : l.contents ≡ sum_by job_contents (take l.job-index l.jobs); few : l.contents ≤ 255 * l.job-index }
