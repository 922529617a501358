-- A host that goes on with its jobs has room enough.
use Rattle.std.proofs.Common.{◌≡◌, ℕ, ◌+◌, ◌-◌, ◌*◌, ◌<◌, ◌≤◌, List, [], ◌∷◌, ◌++◌, length, drop, Bool, true, false, Option, Some, None, Result, Ok, Err, sum_by, refl, sym, ap, subst, arith}
use Rattle.std.specs.Prelude.{IsOk, flat_map}
use Rattle.std.specs.List.{AllByRecursion}
use Rattle.std.proofs.lemmas.List.{length-append}
use Rattle.std.proofs.lemmas.List.Sums.{sum_by-cons}
use Rattle.std.proofs.lemmas.Grind.{flat_map-append}
use Rattle.raid_base.specs.declared.numbers.HostNo.{HostNo}
use Rattle.raid_base.specs.declared.numbers.BayNo.{BayNo}
use Rattle.raid_base.specs.declared.numbers.Number.{Number}
use Rattle.raid_base.specs.declared.numbers.Spent.{Spent}
use Rattle.raid_base.specs.declared.cells.Content.{Content}
use Rattle.raid_base.specs.declared.messages.Errand.{Errand}
use Rattle.raid_base.specs.declared.messages.Request.TheVariants.{Lose, Fit}
use Rattle.raid_base.specs.declared.jobs.Job.{Job}
use Rattle.raid_base.specs.declared.jobs.Task.{Task}
use Rattle.raid_base.specs.declared.jobs.Task.TheVariants as tasks
use Rattle.raid_base.specs.declared.jobs.Cause.TheVariants as causes
use Rattle.raid_base.specs.declared.jobs.JobEnd.{JobEnd}
use Rattle.raid_base.specs.declared.jobs.JobEnd.TheVariants as job_ends
use Rattle.raid_base.specs.declared.jobs.RowPart.{RowPart}
use Rattle.raid_base.specs.declared.jobs.PartsFault.{PartsFault}
use Rattle.raid_base.specs.Numbers.{draw}
use Rattle.raid_base.specs.Steps.{Steps, settled}
use Rattle.attempts.specs.Taking.{Finish}
use Rattle.attempts.specs.Discipline.{IsDrawn, IsWithin}
use Rattle.script_text.specs.Script.{Script}
use Rattle.script_text.specs.Ranges.{IsScript}
use Rattle.histories.specs.declared.operator.Gone.{Gone}
use Rattle.histories.specs.Operator.{is_gone}
use Rattle.histories.specs.Progress.{Progress, Ending, Work, Losing, Fitting, endings_of, with_ending, next_job, attempt, one_more, ends_as, try_with, try_task, try_parts, parts_end, lose_job, fit_job, rebuild_job, start_task, start_jobs}
use Rattle.histories.specs.Plain.{IsTried, task_parts}
use Rattle.histories.specs.Bounds.{IsAimed, IsFinish, rows_tried, job_contents}
use Rattle.histories.proofs.bounds.BoundsTries.{draw-within}
use Rattle.histories.proofs.bounds.BoundsCounts.{ObeysBy, settled-obeys}
use Rattle.histories.proofs.bounds.BoundsMeasures.{Measure, job_most, StepsBy, DeviceBy, WorkBy, KeepsBy}

-- the contents in some endings
abbrev pub read_in : List Ending → List Content
read_in endings = flat_map (λ (e : Ending). e.contents) endings

ended-read : (jobs : List Job) (e : JobEnd) (read : List Content) (p : Progress) → length (read_in (endings_of jobs e read p)) ≤ length read
ended-read [] e read p = omega arith
ended-read (job ∷ jobs) e read p = omega (arith, length-append read [])

-- one attempt and those after it
attempts-split : (most tries k : ℕ) → tries < most → (most - tries) * k ≡ k + (most - (tries + 1)) * k
attempts-split most tries k less =
    let e : most - tries ≡ (most - (tries + 1)) + 1 = omega arith in
    rw e (omega arith)

-- the first row and those after it
rows-split : (rows k : ℕ) → 1 ≤ rows → k + (rows - (0 + 1)) * k ≡ rows * k
rows-split rows k some =
    let e : rows ≡ (rows - (0 + 1)) + 1 = omega arith in
    let all : rows * k ≡ ((rows - (0 + 1)) + 1) * k = ap (λ (n : ℕ). n * k) e in
    omega (arith, all)

some-rows : (script : Script) → 1 ≤ script.rows → (task : Task) → 1 ≤ rows_tried script task
some-rows script least (tasks.Read object first count) = omega arith
some-rows script least (tasks.Write object first from count) = omega arith
some-rows script least (tasks.Recover row) = omega arith
some-rows script least (tasks.Lose bay) = omega arith
some-rows script least (tasks.Fit bay) = omega arith
some-rows script least (tasks.Rebuild bay) = least

module _ (script : Script) (is : IsScript script) (m : Measure script) (host : HostNo) (contents : ℕ) where
  -- a host, whatever it has in hand
  pub record Sound (p : Progress) : Type 0 where
    pub aims : AllByRecursion (λ (job : Job). IsAimed script job.task) p.jobs
    pub tries : p.tries ≤ script.tries
    pub row : p.row < script.rows
    pub reads : length (read_in p.endings) + sum_by job_contents p.jobs ≤ contents

  -- one that is to begin the first of its jobs
  pub record Ready (p : Progress) (requests : ℕ) : Type 0 where
    pub sound : Sound p
    pub fresh : p.tries ≡ 0
    pub start : p.row ≡ 0
    pub enough : sum_by (job_most script m) p.jobs ≤ requests

  -- the aim of the job in hand
  pub first-aim : (job : Job) (jobs js : List Job) → js ≡ job ∷ jobs → AllByRecursion (λ (j : Job). IsAimed script j.task) js →
      IsAimed script job.task × AllByRecursion (λ (j : Job). IsAimed script j.task) jobs
  first-aim job jobs js e aims = subst (AllByRecursion (λ (j : Job). IsAimed script j.task)) e aims

  -- the job in hand has ended, and the next is to begin
  pub ready-next : (p : Progress) (requests : ℕ) (e : JobEnd) (read : List Content) (job : Job) (jobs : List Job) → p.jobs ≡ job ∷ jobs → Sound p →
      length read ≤ job_contents job → sum_by (job_most script m) jobs ≤ requests → Ready (next_job (with_ending p e read)) requests
  ready-next p requests e read job jobs is_first s few enough =
      let left : jobs ≡ drop 1 p.jobs = sym (ap (drop 1) is_first) in
      let aims = first-aim job jobs p.jobs is_first s.aims in
      let least = is.rows_least in
      let reads : length (read_in p.endings) + (job_contents job + sum_by job_contents jobs) ≤ contents =
      omega (arith, s.reads, ap (sum_by job_contents) is_first, sum_by-cons job_contents job jobs) in
      let ended : length (read_in (p.endings ++ endings_of p.jobs e read p)) ≤ length (read_in p.endings) + length read =
      omega (
        arith,
        ap length (flat_map-append (λ (x : Ending). x.contents) p.endings (endings_of p.jobs e read p)),
        length-append (read_in p.endings) (read_in (endings_of p.jobs e read p)),
        ended-read p.jobs e read p,
      ) in
      record {
        sound = record {
          aims = subst (AllByRecursion (λ (j : Job). IsAimed script j.task)) left aims.1;
          tries = omega arith;
          row = omega (arith, least);
          reads = subst (λ (js : List Job). length (read_in (p.endings ++ endings_of p.jobs e read p)) + sum_by job_contents js ≤ contents) left (omega arith);
        };
        fresh = refl;
        start = refl;
        enough = subst (λ (js : List Job). sum_by (job_most script m) js ≤ requests) left enough;
      }

  -- where a host goes on with these jobs
  abbrev pub GoesOn : ℕ → List Job → (Progress → Progress) → Type 0
  GoesOn requests jobs rest = (q : Progress) → q.jobs ≡ jobs → Ready q requests → KeepsBy script m (rest q) requests contents

  -- what the job in hand may still ask in further tries and on later rows, and later jobs
  abbrev pub AreEnough : Job → List Job → ℕ → ℕ → ℕ → Type 0
  AreEnough job jobs row tries requests =
      (script.tries - tries) * m.each job.task + (rows_tried script job.task - (row + 1)) * (script.tries * m.each job.task)
      + sum_by (job_most script m) jobs ≤ requests

  module _ (requests : ℕ) (rest : Progress → Progress) (job : Job) (jobs : List Job) (goes_on : GoesOn requests jobs rest) (p : Progress) (is_first : p.jobs ≡ job ∷ jobs) (s : Sound p) where
    -- a job ends without a request
    pub skip-keeps : (q : Progress) (e : JobEnd) → q.jobs ≡ job ∷ jobs → Sound q → sum_by (job_most script m) jobs ≤ requests →
        KeepsBy script m (rest (next_job (with_ending q e []))) requests contents
    skip-keeps q e first sound enough = goes_on (next_job (with_ending q e [])) (ap (drop 1) first) (ready-next q requests e [] job jobs first sound (omega arith) enough)

    -- an attempt begins
    tried-keeps : p.tries < script.tries → IsTried script job.task → AreEnough job jobs p.row p.tries requests → (d : Result Number Spent) → IsDrawn d →
        KeepsBy script m (try_with script host job.task rest (one_more p) d) requests contents
    tried-keeps more tried enough (Ok id) drawn =
        let steps : Steps Finish = (settled host id (attempt script host id p.row job.task)).steps in
        let obeys : ObeysBy m.count (IsWithin script.n script.rows) (IsFinish script job.task) (m.each job.task) steps =
        settled-obeys (IsWithin script.n script.rows) (IsFinish script job.task) m.count host (m.each job.task) id (attempt script host id p.row job.task)
        (m.obeys id drawn host p.row job.task s.row (first-aim job jobs p.jobs is_first s.aims).0 tried) in
        let split = attempts-split script.tries p.tries (m.each job.task) more in
        let kept : StepsBy script m (job ∷ jobs) p.row (p.tries + 1) requests steps = (m.each job.task, tried, obeys, omega (arith, split, enough)) in
        record {
          aims = s.aims;
          tries = omega arith;
          row = s.row;
          work = subst (λ (js : List Job). StepsBy script m js p.row (p.tries + 1) requests steps) (sym is_first) kept;
          reads = s.reads;
        }
    tried-keeps more tried enough (Err spent) drawn =
        let sound : Sound (one_more p) = record { aims = s.aims; tries = omega arith; row = s.row; reads = s.reads } in
        skip-keeps (one_more p) (job_ends.Gave (p.tries + 1) (causes.Spent spent.seen)) is_first sound (omega (arith, enough))

    pub try-keeps : p.tries < script.tries → IsTried script job.task → AreEnough job jobs p.row p.tries requests →
        KeepsBy script m (try_task script host job.task rest p) requests contents
    try-keeps more tried enough = tried-keeps more tried enough (draw host p.seen) (draw-within host p.seen)

    -- a job begins
    module _ (fresh : p.tries ≡ 0) (start : p.row ≡ 0) (enough : m.whole job.task + sum_by (job_most script m) jobs ≤ requests) where
      begin-tried : (task : Task) → job.task ≡ task → IsTried script task → KeepsBy script m (try_task script host task rest p) requests contents
      begin-tried task same tried =
          let least = is.tries_least in
          let tried' : IsTried script job.task = subst (IsTried script) (sym same) tried in
          let split = rows-split (rows_tried script job.task) (script.tries * m.each job.task) (some-rows script is.rows_least job.task) in
          let covers = m.covers job.task tried' in
          let all : AreEnough job jobs 0 0 requests = let e : script.tries - 0 ≡ script.tries = omega arith in rw e (omega (arith, split, covers, enough)) in
          let all' : AreEnough job jobs p.row p.tries requests =
          subst (λ (t : ℕ). AreEnough job jobs p.row t requests) (sym fresh) (subst (λ (r : ℕ). AreEnough job jobs r 0 requests) (sym start) all) in
          subst (λ (t : Task). KeepsBy script m (try_task script host t rest p) requests contents) same (try-keeps (omega (arith, fresh, least)) tried' all')

      begin-skip : (e : JobEnd) → KeepsBy script m (ends_as rest p e) requests contents
      begin-skip e = skip-keeps p e is_first s (omega (arith, enough))

      parts-keep : (task : Task) → job.task ≡ task → (IsOk (task_parts script task) → IsTried script task) → (r : Result (List RowPart) PartsFault) → task_parts script task ≡ r →
          KeepsBy script m (try_parts script host task rest p r) requests contents
      parts-keep task same tried (Ok parts) granted =
          begin-tried task same (tried (subst (λ (r : Result (List RowPart) PartsFault). IsOk r) (sym granted) refl))
      parts-keep task same tried (Err fault) refused = begin-skip (parts_end fault)

      -- a request that is a job of its own
      device-keeps : (work : Work) → WorkBy script m (job ∷ jobs) p.row p.tries requests work → KeepsBy script m (record p { work = work }) requests contents
      device-keeps work kept = record {
        aims = s.aims;
        tries = s.tries;
        row = s.row;
        work = subst (λ (js : List Job). WorkBy script m js p.row p.tries requests work) (sym is_first) kept;
        reads = s.reads;
      }

      device-enough : (e : Errand) → e.bay.0 < script.n → m.count e ≤ m.whole job.task → DeviceBy script m (job ∷ jobs) requests e
      device-enough e below few = (below, omega (arith, few, enough))

      lose-keeps : (bay : BayNo) → job.task ≡ tasks.Lose bay → (gone : Option Gone) → KeepsBy script m (lose_job rest p bay gone) requests contents
      lose-keeps bay same None =
          let e : Errand = record { bay = bay; request = Lose } in
          let aim : bay.0 < script.n = subst (IsAimed script) same (first-aim job jobs p.jobs is_first s.aims).0 in
          device-keeps (Losing bay) (device-enough e aim (subst (λ (t : Task). m.count e ≤ m.whole t) (sym same) (m.loses bay)))
      lose-keeps bay same (Some gone) = begin-skip (job_ends.StillMissing gone.bay)

      fit-keeps : (bay : BayNo) → job.task ≡ tasks.Fit bay → (lost : Bool) → KeepsBy script m (fit_job rest p bay lost) requests contents
      fit-keeps bay same true =
          let e : Errand = record { bay = bay; request = Fit } in
          let aim : bay.0 < script.n = subst (IsAimed script) same (first-aim job jobs p.jobs is_first s.aims).0 in
          device-keeps (Fitting bay) (device-enough e aim (subst (λ (t : Task). m.count e ≤ m.whole t) (sym same) (m.fits bay)))
      fit-keeps bay same false = begin-skip (job_ends.NotLost bay)

      rebuild-keeps : (bay : BayNo) → job.task ≡ tasks.Rebuild bay → (fitted : Bool) → KeepsBy script m (rebuild_job script host rest p bay fitted) requests contents
      rebuild-keeps bay same true =
          let aim : bay.0 < script.n = subst (IsAimed script) same (first-aim job jobs p.jobs is_first s.aims).0 in
          begin-tried (tasks.Rebuild bay) same aim
      rebuild-keeps bay same false = begin-skip (job_ends.NotFitted bay)

      first-keeps : (task : Task) → job.task ≡ task → KeepsBy script m (start_task script host rest p task) requests contents
      first-keeps (tasks.Read object first count) same = parts-keep (tasks.Read object first count) same (λ ok. ok) (task_parts script (tasks.Read object first count)) refl
      first-keeps (tasks.Write object first from count) same =
          parts-keep (tasks.Write object first from count) same (λ ok. ok) (task_parts script (tasks.Write object first from count)) refl
      first-keeps (tasks.Recover at) same = begin-tried (tasks.Recover at) same tt
      first-keeps (tasks.Lose bay) same = lose-keeps bay same p.gone
      first-keeps (tasks.Fit bay) same = fit-keeps bay same (is_gone bay false p.gone)
      first-keeps (tasks.Rebuild bay) same = rebuild-keeps bay same (is_gone bay true p.gone)

      pub begin-keeps : KeepsBy script m (start_task script host rest p job.task) requests contents
      begin-keeps = first-keeps job.task refl

  -- a host goes on with its jobs
  pub start-keeps : (requests : ℕ) (jobs : List Job) → GoesOn requests jobs (start_jobs script host jobs)
  start-keeps requests [] p none r =
      let s = r.sound in
      record { aims = s.aims; tries = s.tries; row = s.row; work = tt; reads = s.reads }
  start-keeps requests (job ∷ jobs) p is_first r =
      begin-keeps requests (start_jobs script host jobs) job jobs (start-keeps requests jobs) p is_first r.sound r.fresh r.start
      (omega (arith, r.enough, ap (sum_by (job_most script m)) is_first, sum_by-cons (job_most script m) job jobs))
