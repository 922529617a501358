use Rattle.std.proofs.Common.{◌≡◌, ◌≤◌, ◌*◌, take}
use Rattle.std.specs.Prelude.{sum_by}
use Rattle.histories.specs.Bounds.{job_requests}
use Rattle.host_engine.proofs.room.requests_in.Given as goal

abbrev pub invariant-loop-job : goal.invariant-loop-job
invariant-loop-job l = record { sum : l.requests ≡ sum_by (job_requests l.script) (take l.job-index l.jobs); few : l.requests ≤ 1069531200 * l.job-index }
