-- Counts of errands, and what is enough of a count for what is left of a host's jobs.
use Rattle.std.proofs.Common.{ℕ, ◌+◌, ◌-◌, ◌*◌, ◌<◌, ◌≤◌, List, [], ◌∷◌, length, sum_by, arith}
use Rattle.std.specs.Prelude.{flat_map}
use Rattle.std.specs.List.{AllByRecursion}
use Rattle.raid_base.specs.declared.numbers.HostNo.{HostNo}
use Rattle.raid_base.specs.declared.numbers.BayNo.{BayNo}
use Rattle.raid_base.specs.declared.numbers.Number.{Number}
use Rattle.raid_base.specs.declared.messages.Errand.{Errand}
use Rattle.raid_base.specs.declared.messages.Request.TheVariants.{Lose, Fit}
use Rattle.raid_base.specs.declared.jobs.Job.{Job}
use Rattle.raid_base.specs.declared.jobs.Task.{Task}
use Rattle.raid_base.specs.declared.jobs.Task.TheVariants as tasks
use Rattle.raid_base.specs.Steps.{Steps}
use Rattle.attempts.specs.Taking.{Finish}
use Rattle.attempts.specs.Discipline.{IsNumber, IsWithin}
use Rattle.attempts.specs.BayBounds.{count_at}
use Rattle.script_text.specs.Script.{Script, jobs_of, parts_of}
use Rattle.script_text.specs.Ranges.{IsScript}
use Rattle.script_text.specs.Weights.{weight, touched}
use Rattle.histories.specs.Progress.{Progress, Ending, Work, Trying, Losing, Fitting, Over, attempt}
use Rattle.histories.specs.Plain.{IsTried}
use Rattle.histories.specs.Bounds.{IsAimed, IsFinish, Keeps, KeepsWork, rows_tried, task_tries, task_requests, job_contents}
use Rattle.histories.proofs.bounds.BoundsTries.{attempt-obeys, attempt-obeys-at, task_weight}
use Rattle.histories.proofs.bounds.BoundsCounts.{ObeysBy, one, by-one, of-one, by-bay}

-- a count of errands, and how much of it an attempt of a task and a whole job may take
pub record Measure (script : Script) : Type 0 where
  pub count : Errand → ℕ
  pub each : Task → ℕ
  pub whole : Task → ℕ
  pub obeys : (id : Number) → IsNumber id → (host : HostNo) (row : ℕ) (task : Task) → row < script.rows → IsAimed script task → IsTried script task →
      ObeysBy count (IsWithin script.n script.rows) (IsFinish script task) (each task) (attempt script host id row task)
  pub covers : (task : Task) → IsTried script task → rows_tried script task * (script.tries * each task) ≤ whole task
  pub loses : (bay : BayNo) → count (record { bay = bay; request = Lose }) ≤ whole (tasks.Lose bay)
  pub fits : (bay : BayNo) → count (record { bay = bay; request = Fit }) ≤ whole (tasks.Fit bay)

module _ (script : Script) (m : Measure script) where
  -- what a job may take
  abbrev pub job_most : Job → ℕ
  job_most job = m.whole job.task

  -- what all jobs of a host may take
  abbrev pub host_most : HostNo → ℕ
  host_most host = sum_by job_most (jobs_of script host)

  -- so much is enough for what is left: for this attempt, further ones, those of later rows, and later jobs
  abbrev pub StepsBy : List Job → ℕ → ℕ → ℕ → Steps Finish → Type 0
  StepsBy [] row tries room steps = ⊥
  StepsBy (job ∷ jobs) row tries room steps =
      (most : ℕ) × IsTried script job.task × ObeysBy m.count (IsWithin script.n script.rows) (IsFinish script job.task) most steps
      × (most + (script.tries - tries) * m.each job.task + (rows_tried script job.task - (row + 1)) * (script.tries * m.each job.task) + sum_by job_most jobs ≤ room)

  -- for a request that is a job of its own, and later jobs
  abbrev pub DeviceBy : List Job → ℕ → Errand → Type 0
  DeviceBy [] room errand = ⊥
  DeviceBy (job ∷ jobs) room errand = (errand.bay.0 < script.n) × (m.count errand + sum_by job_most jobs ≤ room)

  abbrev pub WorkBy : List Job → ℕ → ℕ → ℕ → Work → Type 0
  WorkBy jobs row tries room (Trying steps) = StepsBy jobs row tries room steps
  WorkBy jobs row tries room (Losing bay) = DeviceBy jobs room (record { bay = bay; request = Lose })
  WorkBy jobs row tries room (Fitting bay) = DeviceBy jobs room (record { bay = bay; request = Fit })
  WorkBy jobs row tries room Over = Unit {0}

  pub record KeepsBy (p : Progress) (room contents : ℕ) : Type 0 where
    pub aims : AllByRecursion (λ (job : Job). IsAimed script job.task) p.jobs
    pub tries : p.tries ≤ script.tries
    pub row : p.row < script.rows
    pub work : WorkBy p.jobs p.row p.tries room p.work
    pub reads : length (flat_map (λ (e : Ending). e.contents) p.endings) + sum_by job_contents p.jobs ≤ contents

module _ (script : Script) (is : IsScript script) where
  -- all requests count
  pub requests-cover : (task : Task) → IsTried script task →
      rows_tried script task * (script.tries * task_requests script task) ≤ rows_tried script task * (task_tries script task * task_requests script task)
  requests-cover (tasks.Read object first count) tried = omega arith
  requests-cover (tasks.Write object first from count) tried = omega arith
  requests-cover (tasks.Recover row) tried = omega arith
  requests-cover (tasks.Lose bay) tried = absurd tried
  requests-cover (tasks.Fit bay) tried = absurd tried
  requests-cover (tasks.Rebuild bay) tried = omega arith

  abbrev pub by_requests : Measure script
  by_requests = record {
    count = one;
    each = task_requests script;
    whole = λ task. rows_tried script task * (task_tries script task * task_requests script task);
    obeys = λ id drawn host row task below aim tried.
        by-one (IsWithin script.n script.rows) (IsFinish script task) (task_requests script task) (attempt script host id row task)
        (attempt-obeys script is id drawn host row task below aim tried);
    covers = requests-cover;
    loses = λ bay. omega arith;
    fits = λ bay. omega arith;
  }

  steps-of : (jobs : List Job) (row tries room : ℕ) (steps : Steps Finish) → StepsBy script by_requests jobs row tries room steps → KeepsWork script jobs row tries room (Trying steps)
  steps-of [] row tries room steps k = absurd k
  steps-of (job ∷ jobs) row tries room steps k =
      (k.0, k.1, of-one (IsWithin script.n script.rows) (IsFinish script job.task) k.0 steps k.2, k.3)

  work-of : (jobs : List Job) (row tries room : ℕ) (work : Work) → WorkBy script by_requests jobs row tries room work → KeepsWork script jobs row tries room work
  work-of jobs row tries room (Trying steps) k = steps-of jobs row tries room steps k
  work-of [] row tries room (Losing bay) k = absurd k
  work-of (job ∷ jobs) row tries room (Losing bay) k = k
  work-of [] row tries room (Fitting bay) k = absurd k
  work-of (job ∷ jobs) row tries room (Fitting bay) k = k
  work-of jobs row tries room Over k = tt

  pub keeps-of : (p : Progress) (room contents : ℕ) → KeepsBy script by_requests p room contents → Keeps script p room contents
  keeps-of p room contents k = record { aims = k.aims; tries = k.tries; row = k.row; work = work-of p.jobs p.row p.tries room p.work k.work; reads = k.reads }

  -- those to one bay count
  module _ (bay : BayNo) where
    pub at-most-one : (e : Errand) → count_at bay e ≤ 1
    at-most-one e = grind arith

    pub weights-cover : (task : Task) → IsTried script task → rows_tried script task * (script.tries * task_weight script task) ≤ weight script task
    weights-cover (tasks.Read object first count) tried = times-four script.tries (touched (parts_of script object first count))
      where
        times-four : (a b : ℕ) → 1 * (a * (4 * b)) ≤ 4 * a * b
        times-four a b = omega arith
    weights-cover (tasks.Write object first from count) tried = times-four script.tries (touched (parts_of script object first count))
      where
        times-four : (a b : ℕ) → 1 * (a * (4 * b)) ≤ 4 * a * b
        times-four a b = omega arith
    weights-cover (tasks.Recover row) tried = omega arith
    weights-cover (tasks.Lose lost) tried = absurd tried
    weights-cover (tasks.Fit lost) tried = absurd tried
    weights-cover (tasks.Rebuild target) tried = omega arith

    abbrev pub by_weights : Measure script
    by_weights = record {
      count = count_at bay;
      each = task_weight script;
      whole = weight script;
      obeys = λ id drawn host row task below aim tried.
          by-bay (IsWithin script.n script.rows) (IsFinish script task) bay (task_requests script task) (task_weight script task) (attempt script host id row task)
          (attempt-obeys script is id drawn host row task below aim tried) (attempt-obeys-at script is id drawn bay host row task below aim tried);
      covers = weights-cover;
      loses = λ lost. at-most-one (record { bay = lost; request = Lose });
      fits = λ lost. at-most-one (record { bay = lost; request = Fit });
    }
