-- How much a host may still ask and report.
use Rattle.std.specs.List.{AllByRecursion}
use Rattle.std.specs.Prelude.{ℕ, ◌+◌, ◌-◌, ◌*◌, ◌<◌, ◌≤◌, List, [], ◌∷◌, length, sum_by, flat_map, Result, Ok, Err}
use Rattle.raid_base.specs.declared.numbers.HostNo.{HostNo}
use Rattle.raid_base.specs.declared.numbers.BayNo.{BayNo}
use Rattle.raid_base.specs.declared.jobs.Job.{Job}
use Rattle.raid_base.specs.declared.jobs.Task.{Task}
use Rattle.raid_base.specs.declared.jobs.Task.TheVariants as tasks
use Rattle.raid_base.specs.declared.jobs.RowPart.{RowPart}
use Rattle.raid_base.specs.declared.jobs.PartsFault.{PartsFault}
use Rattle.raid_base.specs.Steps.{Steps}
use Rattle.attempts.specs.Taking.{Finish}
use Rattle.attempts.specs.Discipline.{IsWithin, Obeys, IsPlainFinish, IsMendFinish, IsRecoveryFinish}
use Rattle.script_text.specs.Script.{Script, jobs_of, parts_of}
use Rattle.script_text.specs.Ranges.{IsScript}
use Rattle.histories.specs.Plain.{IsTried}
use Rattle.histories.specs.Progress.{Progress, Ending, Work, Trying, Losing, Fitting, Over}

-- an attempt asks the n bays, all together, at most four times each for each of its rows
abbrev pub parts_requests : ℕ → Result (List RowPart) PartsFault → ℕ
parts_requests n (Ok parts) = 4 * n * length parts
parts_requests n (Err fault) = 0

abbrev pub task_requests : Script → Task → ℕ
task_requests script (tasks.Read object first count) = parts_requests script.n (parts_of script object first count)
task_requests script (tasks.Write object first from count) = parts_requests script.n (parts_of script object first count)
task_requests script (tasks.Recover row) = 4 * script.n
task_requests script (tasks.Lose bay) = 1
task_requests script (tasks.Fit bay) = 1
task_requests script (tasks.Rebuild bay) = 4 * script.n

abbrev pub attempt_requests : Script → Job → ℕ
attempt_requests script job = task_requests script job.task

-- a rebuild tries each row of the array
abbrev pub rows_tried : Script → Task → ℕ
rows_tried script (tasks.Read object first count) = 1
rows_tried script (tasks.Write object first from count) = 1
rows_tried script (tasks.Recover row) = 1
rows_tried script (tasks.Lose bay) = 1
rows_tried script (tasks.Fit bay) = 1
rows_tried script (tasks.Rebuild bay) = script.rows

-- on each row it is tried so often; a lose or a fit is one request
abbrev pub task_tries : Script → Task → ℕ
task_tries script (tasks.Read object first count) = script.tries
task_tries script (tasks.Write object first from count) = script.tries
task_tries script (tasks.Recover row) = script.tries
task_tries script (tasks.Lose bay) = 1
task_tries script (tasks.Fit bay) = 1
task_tries script (tasks.Rebuild bay) = script.tries

abbrev pub job_requests : Script → Job → ℕ
job_requests script job = rows_tried script job.task * (task_tries script job.task * attempt_requests script job)

-- a read gives a content for each of its blocks
abbrev pub task_contents : Task → ℕ
task_contents (tasks.Read object first count) = count
task_contents (tasks.Write object first from count) = 0
task_contents (tasks.Recover row) = 0
task_contents (tasks.Lose bay) = 0
task_contents (tasks.Fit bay) = 0
task_contents (tasks.Rebuild bay) = 0

abbrev pub job_contents : Job → ℕ
job_contents job = task_contents job.task

-- how an attempt of a task may end, and how much it may have read
abbrev pub IsFinish : Script → Task → Finish → Type 0
IsFinish script (tasks.Read object first count) finish = IsPlainFinish count finish
IsFinish script (tasks.Write object first from count) finish = IsPlainFinish 0 finish
IsFinish script (tasks.Recover row) finish = IsRecoveryFinish script.n finish
IsFinish script (tasks.Lose bay) finish = ⊥
IsFinish script (tasks.Fit bay) finish = ⊥
IsFinish script (tasks.Rebuild bay) finish = IsMendFinish finish

-- an attempt of this job keeps to its bounds
abbrev pub KeepsAttempt : Script → Job → ℕ → Steps Finish → Type 0
KeepsAttempt script job most steps = Obeys (IsWithin script.n script.rows) (IsFinish script job.task) most steps

-- so many requests are enough for what is left: for this attempt, further ones, those of later rows, and later jobs
abbrev pub KeepsSteps : Script → List Job → ℕ → ℕ → ℕ → Steps Finish → Type 0
KeepsSteps script [] row tries requests steps = ⊥
KeepsSteps script (job ∷ jobs) row tries requests steps =
    (most : ℕ) × IsTried script job.task × KeepsAttempt script job most steps
    × (most + (script.tries - tries) * attempt_requests script job + (rows_tried script job.task - (row + 1)) * (script.tries * attempt_requests script job) + sum_by (job_requests script) jobs ≤ requests)

-- for a request that is a job of its own, and later jobs
abbrev pub KeepsDevice : Script → List Job → ℕ → BayNo → Type 0
KeepsDevice script [] requests bay = ⊥
KeepsDevice script (job ∷ jobs) requests bay = (bay.0 < script.n) × (1 + sum_by (job_requests script) jobs ≤ requests)

abbrev pub KeepsWork : Script → List Job → ℕ → ℕ → ℕ → Work → Type 0
KeepsWork script jobs row tries requests (Trying steps) = KeepsSteps script jobs row tries requests steps
KeepsWork script jobs row tries requests (Losing bay) = KeepsDevice script jobs requests bay
KeepsWork script jobs row tries requests (Fitting bay) = KeepsDevice script jobs requests bay
KeepsWork script jobs row tries requests Over = Unit {0}

-- a read or a write has some blocks, and rows and bays are those of the array
abbrev pub IsAimed : Script → Task → Type 0
IsAimed script (tasks.Read object first count) = 1 ≤ count
IsAimed script (tasks.Write object first from count) = 1 ≤ count
IsAimed script (tasks.Recover row) = row.0 < script.rows
IsAimed script (tasks.Lose bay) = bay.0 < script.n
IsAimed script (tasks.Fit bay) = bay.0 < script.n
IsAimed script (tasks.Rebuild bay) = bay.0 < script.n

-- so many requests are enough for what is left of a host's jobs, and so many contents for all of them
pub record Keeps (script : Script) (p : Progress) (requests contents : ℕ) : Type 0 where
  pub aims : AllByRecursion (λ (job : Job). IsAimed script job.task) p.jobs
  pub tries : p.tries ≤ script.tries
  pub row : p.row < script.rows
  pub work : KeepsWork script p.jobs p.row p.tries requests p.work
  pub reads : length (flat_map (λ (e : Ending). e.contents) p.endings) + sum_by job_contents p.jobs ≤ contents

-- a script that can be played
pub record IsPlayable (script : Script) : Type 0 where
  pub ranges : IsScript script

-- so many requests and contents are enough for all jobs of a host
abbrev pub host_requests : Script → HostNo → ℕ
host_requests script host = sum_by (job_requests script) (jobs_of script host)

abbrev pub host_contents : Script → HostNo → ℕ
host_contents script host = sum_by job_contents (jobs_of script host)
