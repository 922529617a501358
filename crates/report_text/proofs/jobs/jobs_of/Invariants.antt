use Rattle.std.proofs.Common.{◌≡◌, ◌==◌, drop}
use Rattle.std.specs.Prelude.{find}
use Rattle.script_text.specs.Script.{HostJobs, jobs_in}
use Rattle.report_text.proofs.jobs.jobs_of.Given as goal

abbrev pub invariant-loop-jobs : goal.invariant-loop-jobs
invariant-loop-jobs l =
    jobs_in (find (λ (h : HostJobs). h.host.0 == l.host.0) l.hosts) ≡ jobs_in (find (λ (h : HostJobs). h.host.0 == l.host.0) (drop l.jobs-index l.hosts))
