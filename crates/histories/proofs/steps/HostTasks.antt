-- The jobs of a host of a script are its to do.
use Rattle.std.proofs.Common.{◌≡◌, ◌==◌, Bool, true, false, cond, List, [], ◌∷◌, find, Some, refl, subst}
use Rattle.std.specs.List.{AllByRecursion, All}
use Rattle.std.proofs.lemmas.List.Elements.{recursion_from_All}
use Rattle.raid_base.specs.declared.numbers.HostNo.{HostNo}
use Rattle.raid_base.specs.declared.jobs.Job.{Job}
use Rattle.script_text.specs.Script.{Script, HostJobs, jobs_in, jobs_of}
use Rattle.script_text.specs.Ranges.{IsScript, IsJob, IsTask}
use Rattle.histories.proofs.steps.SameNumbers.{same-host}

abbrev Tasks : Script → HostNo → List Job → Type 0
Tasks script host jobs = AllByRecursion (λ (job : Job). IsTask script host job.task) jobs

job-tasks : (script : Script) (host : HostNo) (jobs : List Job) → AllByRecursion (IsJob script host) jobs → Tasks script host jobs
job-tasks script host [] h = tt
job-tasks script host (job ∷ jobs) h = (h.0.task, job-tasks script host jobs h.1)

found-tasks : (script : Script) (host : HostNo) (hosts : List HostJobs) → AllByRecursion (λ (h : HostJobs). All (IsJob script h.host) h.jobs) hosts →
    Tasks script host (jobs_in (find (λ (h : HostJobs). h.host.0 == host.0) hosts))
found-tasks script host [] h = tt
found-tasks script host (first ∷ hosts) h = by (first.host.0 == host.0) refl (found-tasks script host hosts h.1)
  where
    by : (b : Bool) → (first.host.0 == host.0) ≡ b → Tasks script host (jobs_in (find (λ (x : HostJobs). x.host.0 == host.0) hosts)) →
        Tasks script host (jobs_in (cond b (Some first) (find (λ (x : HostJobs). x.host.0 == host.0) hosts)))
    by true e rest =
        subst (λ (x : HostNo). Tasks script x first.jobs) (same-host first.host host e) (job-tasks script first.host first.jobs (recursion_from_All (IsJob script first.host) first.jobs h.0))
    by false e rest = rest

pub host-tasks : (script : Script) → IsScript script → (host : HostNo) → AllByRecursion (λ (job : Job). IsTask script host job.task) (jobs_of script host)
host-tasks script is host = found-tasks script host script.hosts (recursion_from_All (λ (h : HostJobs). All (IsJob script h.host) h.jobs) script.hosts is.jobs)
