use Rattle.std.proofs.Common.{◌≡◌, take}
use Rattle.std.specs.Prelude.{sum_by}
use Rattle.script_text.specs.Script.{HostJobs}
use Rattle.histories.specs.Bounds.{host_requests}
use Rattle.schedule_play.proofs.making.all_requests.Given as goal

abbrev pub invariant-loop-jobs : goal.invariant-loop-jobs
invariant-loop-jobs l = l.requests ≡ sum_by (λ (h : HostJobs). host_requests l.script h.host) (take l.jobs-index l.jobs-items)
