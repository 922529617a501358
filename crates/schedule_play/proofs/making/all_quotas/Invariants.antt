use Rattle.std.proofs.Common.{◌≡◌, take}
use Rattle.std.specs.Prelude.{sum_by}
use Rattle.script_text.specs.Script.{HostJobs}
use Rattle.script_text.specs.Weights.{quota}
use Rattle.schedule_play.proofs.making.all_quotas.Given as goal

abbrev pub invariant-loop-jobs : goal.invariant-loop-jobs
invariant-loop-jobs l = l.quotas ≡ sum_by (λ (h : HostJobs). quota l.script h.host) (take l.jobs-index l.jobs-items)
