-- The weights of jobs.
use Rattle.std.proofs.Common.{◌≡◌, ℕ, ◌+◌, ◌<◌, ◌≤◌, List, length, take, get_or, ap, ◌∙◌, arith}
use Rattle.std.specs.Prelude.{All}
use Rattle.std.specs.List.{flat_map}
use Rattle.std.proofs.lemmas.List.Elements.{All-weaker}
use Rattle.std.proofs.lemmas.List.Folds.{length-flat_map-take}
use Rattle.raid_base.specs.declared.numbers.HostNo.{HostNo}
use Rattle.raid_base.specs.declared.jobs.Job.{Job}
use Rattle.raid_base.specs.declared.jobs.Task.{Task}
use Rattle.raid_base.specs.declared.jobs.Task.TheVariants.{Read, Write, Recover, Lose, Fit, Rebuild}
use Rattle.script_text.specs.Script.{Script, HostJobs}
use Rattle.script_text.specs.Ranges.{HasAccess, IsScript, IsTask, IsJob, all_jobs}

task_access : (script : Script) (host : HostNo) (task : Task) → IsTask script host task → HasAccess task
task_access script host (Read object first count) h = h
task_access script host (Write object first from count) h = h
task_access script host (Recover row) h = tt
task_access script host (Lose bay) h = tt
task_access script host (Fit bay) h = tt
task_access script host (Rebuild bay) h = tt

-- the jobs of each host are in range, and few
pub jobs_access : (script : Script) (i : ℕ) (d : HostJobs) → IsScript script → i < length script.hosts → All (λ (job : Job). HasAccess job.task) (get_or script.hosts i d).jobs
jobs_access script i d h l =
    All-weaker (IsJob script (get_or script.hosts i d).host) (λ (job : Job). HasAccess job.task) (λ job j. task_access script _ job.task j.task) _ (h.jobs i d l)

pub jobs_few : (script : Script) (i : ℕ) (d : HostJobs) → i < length script.hosts → length (flat_map (λ (host : HostJobs). host.jobs) (take i script.hosts)) + length (get_or script.hosts i d).jobs ≤ length (all_jobs script)
jobs_few script i d l = length-flat_map-take (λ (host : HostJobs). host.jobs) script.hosts i d l

-- a host's jobs, with those of the hosts before it
pub item_few : (script : Script) (hosts : List HostJobs) (i : ℕ) (item : HostJobs) (jobs : List Job) → hosts ≡ script.hosts → i < length hosts → item ≡ get_or hosts i item → jobs ≡ item.jobs → length (flat_map (λ (host : HostJobs). host.jobs) (take i hosts)) + length jobs ≤ length (all_jobs script)
item_few script hosts i item jobs he l is je =
    let few = length-flat_map-take (λ (host : HostJobs). host.jobs) hosts i item l in
    let same : length jobs ≡ length (get_or hosts i item).jobs = ap length (je ∙ ap (λ (h : HostJobs). h.jobs) is) in
    let all : length (flat_map (λ (host : HostJobs). host.jobs) hosts) ≡ length (all_jobs script) = ap (λ (hs : List HostJobs). length (flat_map (λ (host : HostJobs). host.jobs) hs)) he in
    omega arith
