use Rattle.std.proofs.Common.{◌≡◌, ◌≤◌, ◌*◌, ◌^◌, take}
use Rattle.std.specs.Prelude.{sum_by}
use Rattle.script_text.specs.Script.{HostJobs}
use Rattle.histories.specs.Bounds.{host_contents}
use Rattle.schedule_play.proofs.gathering.content_count.Given as goal

abbrev pub invariant-loop-jobs : goal.invariant-loop-jobs
invariant-loop-jobs l = (l.count ≡ sum_by (λ (h : HostJobs). host_contents l.script h.host) (take l.jobs-index l.jobs-items)) × (l.count ≤ 2 ^ 40 * l.jobs-index)
