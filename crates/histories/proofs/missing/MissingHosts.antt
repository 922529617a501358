-- What a host keeps to while it goes through its jobs: all bays but the one that is gone have all their cells, and so has
-- that one in the rows that its rebuild has left behind; and a bay without a device is gone and not yet fitted.
use Rattle.std.proofs.Common.{◌≡◌, ℕ, ◌+◌, ◌<◌, ◌==◌, ◌||◌, ◌&&◌, not, Bool, true, false, List, [], ◌∷◌, drop, Option, Some, None, Result, Ok, Err, refl, sym, ap, subst, ◌∙◌, arith}
use Rattle.std.specs.List.{AllByRecursion}
use Rattle.std.proofs.lemmas.Bool.Decides.{nat_tests}
use Rattle.raid_base.specs.declared.numbers.BayNo.{BayNo}
use Rattle.raid_base.specs.declared.numbers.HostNo.{HostNo}
use Rattle.raid_base.specs.declared.numbers.RowNo.{RowNo}
use Rattle.raid_base.specs.declared.numbers.Number.{Number}
use Rattle.raid_base.specs.declared.numbers.Spent.{Spent}
use Rattle.raid_base.specs.declared.cells.Content.{Content}
use Rattle.raid_base.specs.declared.jobs.Job.{Job}
use Rattle.raid_base.specs.declared.jobs.Task.{Task}
use Rattle.raid_base.specs.declared.jobs.Task.TheVariants as tasks
use Rattle.raid_base.specs.declared.jobs.RowPart.{RowPart}
use Rattle.raid_base.specs.declared.jobs.PartsFault.{PartsFault}
use Rattle.raid_base.specs.declared.jobs.Cause.{Cause}
use Rattle.raid_base.specs.declared.jobs.Cause.TheVariants as causes
use Rattle.raid_base.specs.declared.jobs.Ended.{Ended}
use Rattle.raid_base.specs.declared.jobs.Ended.TheVariants as ends
use Rattle.raid_base.specs.declared.jobs.JobEnd.{JobEnd}
use Rattle.raid_base.specs.declared.jobs.JobEnd.TheVariants as job_ends
use Rattle.raid_base.specs.Numbers.{draw}
use Rattle.raid_base.specs.Steps.{Steps, Asks, Draws, Ends, settled}
use Rattle.attempts.specs.Taking.{Finish}
use Rattle.attempts.specs.Discipline.{IsDrawn}
use Rattle.script_text.specs.Script.{Script, jobs_of, parts_of}
use Rattle.script_text.specs.Ranges.{IsScript, IsTask}
use Rattle.histories.specs.declared.operator.Gone.{Gone}
use Rattle.histories.specs.Operator.{is_gone}
use Rattle.histories.specs.Progress.{Work, Trying, Losing, Fitting, Over, Progress, with_ending, next_job, attempt, try_with, one_more, try_task, parts_end, try_parts, lose_job, fit_job, rebuild_job, start_task, start_jobs, at_start, stops, go_on, job_ended, task_of, try_again, once_more, is_spent, attempt_refused, next_row, row_mended, attempt_ended, quit_end, asks_on, steps_left}
use Rattle.histories.proofs.bounds.BoundsTries.{draw-within}
use Rattle.histories.proofs.bounds.BoundsTakes.{before_start}
use Rattle.histories.proofs.missing.MissingTrees.{Mends, fill_of, settled-mends, attempt-mends}
use Rattle.histories.proofs.steps.HostTasks.{host-tasks}

-- this bay is gone
abbrev pub IsGone : BayNo → Option Gone → Type 0
IsGone at None = ⊥
IsGone at (Some gone) = gone.bay.0 ≡ at.0

is-gone-bay : (bay : BayNo) (fitted : Bool) (gone : Gone) → gone.bay.0 ≡ bay.0 → gone.fitted ≡ fitted → Some gone ≡ Some (record { bay = bay; fitted = fitted })
is-gone-bay bay fitted gone same e =
    ap (λ (k : ℕ). Some (record { bay = record { 0 = k }; fitted = gone.fitted })) same
    ∙ ap (λ (b : Bool). Some (record { bay = bay; fitted = b })) e

-- a bay that is gone and not yet fitted, or fitted
fits-gone : (bay : BayNo) (gone : Option Gone) → is_gone bay false gone ≡ true → gone ≡ Some (record { bay = bay; fitted = false })
fits-gone bay None h = absurd (let bad : false ≡ true = h in cc)
fits-gone bay (Some gone) h = by gone.fitted refl h
  where
    by : (b : Bool) → gone.fitted ≡ b → ((gone.bay.0 == bay.0) && not b) ≡ true → Some gone ≡ Some (record { bay = bay; fitted = false })
    by true e t = absurd (grind (arith, nat_tests))
    by false e t =
        let same : gone.bay.0 ≡ bay.0 = grind (arith, nat_tests) in
        is-gone-bay bay false gone same e

mends-gone : (bay : BayNo) (gone : Option Gone) → is_gone bay true gone ≡ true → gone ≡ Some (record { bay = bay; fitted = true })
mends-gone bay None h = absurd (let bad : false ≡ true = h in cc)
mends-gone bay (Some gone) h = by gone.fitted refl h
  where
    by : (b : Bool) → gone.fitted ≡ b → ((gone.bay.0 == bay.0) && b) ≡ true → Some gone ≡ Some (record { bay = bay; fitted = true })
    by false e t = absurd (grind (arith, nat_tests))
    by true e t =
        let same : gone.bay.0 ≡ bay.0 = grind (arith, nat_tests) in
        is-gone-bay bay true gone same e

-- whether what is gone was fitted
abbrev pub is_fitted : Option Gone → Bool
is_fitted None = false
is_fitted (Some gone) = gone.fitted

-- Here says which slots have a cell, and Empty which bays have no device
module _ (script : Script) (is : IsScript script) (host : HostNo) (Here : BayNo → RowNo → Type 0) (Empty : BayNo → Type 0) where
  -- the host's jobs, and the bays that are not gone
  pub record Sound (p : Progress) : Type 0 where
    pub tasks : AllByRecursion (λ (job : Job). IsTask script host job.task) p.jobs
    pub others : (at : BayNo) (row : RowNo) → at.0 < script.n → row.0 < script.rows → (IsGone at p.gone → ⊥) → Here at row
    pub lost : (at : BayNo) → Empty at → p.gone ≡ Some (record { bay = at; fitted = false })
    pub row : p.row < script.rows

  -- a rebuild is of the bay that is gone and fitted, and has filled the rows before
  abbrev pub Ready : Task → Option Gone → ℕ → Type 0
  Ready (tasks.Read object first count) known row = Unit {0}
  Ready (tasks.Write object first from count) known row = Unit {0}
  Ready (tasks.Recover at) known row = Unit {0}
  Ready (tasks.Lose bay) known row = Unit {0}
  Ready (tasks.Fit bay) known row = Unit {0}
  Ready (tasks.Rebuild bay) known row = (known ≡ Some (record { bay = bay; fitted = true })) × ((r : RowNo) → r.0 < row → Here bay r)

  -- and the row in hand once its slot is filled
  abbrev pub Filled : Task → ℕ → Type 0
  Filled (tasks.Read object first count) row = ⊥
  Filled (tasks.Write object first from count) row = ⊥
  Filled (tasks.Recover at) row = ⊥
  Filled (tasks.Lose bay) row = ⊥
  Filled (tasks.Fit bay) row = ⊥
  Filled (tasks.Rebuild bay) row = Here bay (record { 0 = row })

  pub record InHand (task : Task) (gone : Option Gone) (row : ℕ) (steps : Steps Finish) : Type 0 where
    pub ready : Ready task gone row
    pub filled : Bool
    pub here : filled ≡ true → Filled task row
    pub mends : Mends (fill_of task row) filled steps

  abbrev pub SafeSteps : List Job → Option Gone → ℕ → Steps Finish → Type 0
  SafeSteps [] known row steps = ⊥
  SafeSteps (job ∷ jobs) known row steps = InHand job.task known row steps

  abbrev pub SafeWork : List Job → Option Gone → ℕ → Work → Type 0
  SafeWork jobs known row (Trying steps) = SafeSteps jobs known row steps
  SafeWork jobs known row (Losing bay) = (host.0 ≡ 0) × (known ≡ None)
  SafeWork jobs known row (Fitting bay) = (host.0 ≡ 0) × (known ≡ Some (record { bay = bay; fitted = false }))
  SafeWork jobs known row Over = Unit {0}

  pub record Safe (p : Progress) : Type 0 where
    pub sound : Sound p
    pub work : SafeWork p.jobs p.gone p.row p.work

  rest-tasks : (js : List Job) → AllByRecursion (λ (job : Job). IsTask script host job.task) js → AllByRecursion (λ (job : Job). IsTask script host job.task) (drop 1 js)
  rest-tasks [] h = tt
  rest-tasks (job ∷ jobs) h = h.1

  next-sound : (p : Progress) (e : JobEnd) (read : List Content) → Sound p → Sound (next_job (with_ending p e read))
  next-sound p e read s = record { tasks = rest-tasks p.jobs s.tasks; others = s.others; lost = s.lost; row = let least = is.rows_least in omega (arith, least) }

  -- where it goes on with these jobs
  abbrev pub GoesOn : List Job → (Progress → Progress) → Type 0
  GoesOn jobs rest = (q : Progress) → q.jobs ≡ jobs → q.row ≡ 0 → Sound q → Safe (rest q)

  module _ (rest : Progress → Progress) (job : Job) (jobs : List Job) (goes_on : GoesOn jobs rest) (p : Progress) (first : p.jobs ≡ job ∷ jobs) (s : Sound p) where
    skips : (q : Progress) (e : JobEnd) → q.jobs ≡ job ∷ jobs → Sound q → Safe (rest (next_job (with_ending q e [])))
    skips q e same sound = goes_on (next_job (with_ending q e [])) (ap (drop 1) same) refl (next-sound q e [] sound)

    aim : IsTask script host job.task
    aim = (subst (AllByRecursion (λ (j : Job). IsTask script host j.task)) first s.tasks).0

    none-filled : false ≡ true → Filled job.task p.row
    none-filled h = absurd (cc)

    tries-with : Ready job.task p.gone p.row → (d : Result Number Spent) → draw host p.seen ≡ d → Safe (try_with script host job.task rest (one_more p) d)
    tries-with ready (Ok id) e = record {
      sound = record { tasks = s.tasks; others = s.others; lost = s.lost; row = s.row };
      work = subst (λ (js : List Job). SafeSteps js p.gone p.row (settled host id (attempt script host id p.row job.task)).steps) (sym first)
          (record {
            ready = ready;
            filled = false;
            here = none-filled;
            mends = settled-mends (fill_of job.task p.row) false host id (attempt script host id p.row job.task)
                (attempt-mends script is host id (subst IsDrawn e (draw-within host p.seen)) p.row job.task aim);
          });
    }
    tries-with ready (Err spent) e = skips (one_more p) (job_ends.Gave (p.tries + 1) (causes.Spent spent.seen)) first (record { tasks = s.tasks; others = s.others; lost = s.lost; row = s.row })

    pub tries : Ready job.task p.gone p.row → Safe (try_task script host job.task rest p)
    tries ready = tries-with ready (draw host p.seen) refl

    tries-as : (task : Task) → job.task ≡ task → Ready task p.gone p.row → Safe (try_task script host task rest p)
    tries-as task same ready =
        subst (λ (t : Task). Ready t p.gone p.row → Safe (try_task script host t rest p)) same tries ready

    parts-begin : (task : Task) → job.task ≡ task → Ready task p.gone p.row → (r : Result (List RowPart) PartsFault) → Safe (try_parts script host task rest p r)
    parts-begin task same ready (Ok parts) = tries-as task same ready
    parts-begin task same ready (Err fault) = skips p (parts_end fault) first s

    loses : (bay : BayNo) → host.0 ≡ 0 → (gone : Option Gone) → p.gone ≡ gone → Safe (lose_job rest p bay gone)
    loses bay own None none = record { sound = record { tasks = s.tasks; others = s.others; lost = s.lost; row = s.row }; work = (own, none) }
    loses bay own (Some gone) some = skips p (job_ends.StillMissing gone.bay) first s

    fits-one : (bay : BayNo) → host.0 ≡ 0 → (lost : Bool) → is_gone bay false p.gone ≡ lost → Safe (fit_job rest p bay lost)
    fits-one bay own true e = record { sound = record { tasks = s.tasks; others = s.others; lost = s.lost; row = s.row }; work = (own, fits-gone bay p.gone e) }
    fits-one bay own false e = skips p (job_ends.NotLost bay) first s

    rebuilds : (bay : BayNo) → job.task ≡ tasks.Rebuild bay → p.row ≡ 0 → (fitted : Bool) → is_gone bay true p.gone ≡ fitted → Safe (rebuild_job script host rest p bay fitted)
    rebuilds bay same start true e = tries-as (tasks.Rebuild bay) same (mends-gone bay p.gone e, λ r below. absurd (omega (arith, below, start)))
    rebuilds bay same start false e = skips p (job_ends.NotFitted bay) first s

    starts-as : p.row ≡ 0 → (task : Task) → job.task ≡ task → IsTask script host task → Safe (start_task script host rest p task)
    starts-as start (tasks.Read object begin count) same own = parts-begin (tasks.Read object begin count) same tt (parts_of script object begin count)
    starts-as start (tasks.Write object begin from count) same own = parts-begin (tasks.Write object begin from count) same tt (parts_of script object begin count)
    starts-as start (tasks.Recover at) same own = tries-as (tasks.Recover at) same tt
    starts-as start (tasks.Lose bay) same own = loses bay own.0 p.gone refl
    starts-as start (tasks.Fit bay) same own = fits-one bay own.0 (is_gone bay false p.gone) refl
    starts-as start (tasks.Rebuild bay) same own = rebuilds bay same start (is_gone bay true p.gone) refl

    pub starts : p.row ≡ 0 → Safe (start_task script host rest p job.task)
    starts start = starts-as start job.task refl aim

  pub start-safe : (jobs : List Job) → GoesOn jobs (start_jobs script host jobs)
  start-safe [] p none start s = record { sound = record { tasks = s.tasks; others = s.others; lost = s.lost; row = s.row }; work = tt }
  start-safe (job ∷ jobs) p first start s = starts (start_jobs script host jobs) job jobs (start-safe jobs) p first s start

  -- A job ends
  on-safe : (q : Progress) (stopped : Bool) → Sound (next_job q) → Safe (go_on script host q stopped)
  on-safe q true s = record { sound = record { tasks = s.tasks; others = s.others; lost = s.lost; row = s.row }; work = tt }
  on-safe q false s = start-safe (drop 1 q.jobs) (next_job q) refl refl s

  pub ended-safe : (p : Progress) (e : JobEnd) (read : List Content) → Sound p → Safe (job_ended script host p e read)
  ended-safe p e read s = on-safe (with_ending p e read) (stops p) (next-sound p e read s)

  -- the job in hand may be tried
  abbrev ReadyFirst : List Job → Option Gone → ℕ → Type 0
  ReadyFirst [] known row = Unit {0}
  ReadyFirst (job ∷ jobs) known row = Ready job.task known row

  again-safe : (p : Progress) (js : List Job) → p.jobs ≡ js → Sound p → ReadyFirst js p.gone p.row → Safe (try_again script host p (task_of js))
  again-safe p [] same s ready = record { sound = record { tasks = s.tasks; others = s.others; lost = s.lost; row = s.row }; work = tt }
  again-safe p (job ∷ jobs) same s ready =
      tries (start_jobs script host (drop 1 p.jobs)) job jobs
      (λ q left start sound. start-safe (drop 1 p.jobs) q (left ∙ sym (ap (drop 1) same)) start sound)
      p same s ready

  more-safe : (p later : Progress) → later.jobs ≡ p.jobs → Sound p → Sound later → ReadyFirst p.jobs later.gone later.row → (stopped : Bool) → Safe (once_more script host p later stopped)
  more-safe p later same s t ready true = ended-safe p (job_ends.Gave p.tries causes.Quit) [] s
  more-safe p later same s t ready false = again-safe later p.jobs same t ready

  refused-safe : (p : Progress) (cause : Cause) → Sound p → ReadyFirst p.jobs p.gone p.row → (last : Bool) → Safe (attempt_refused script host p cause last)
  refused-safe p cause s ready true = ended-safe p (job_ends.Gave p.tries cause) [] s
  refused-safe p cause s ready false = more-safe p p refl s s ready (stops p)

  -- a row is mended
  below-next : (bay : BayNo) (row : ℕ) → ((r : RowNo) → r.0 < row → Here bay r) → Here bay (record { 0 = row }) → (r : RowNo) → r.0 < row + 1 → Here bay r
  below-next bay row below here r less = by (r.0 == row) refl
    where
      by : (b : Bool) → (r.0 == row) ≡ b → Here bay r
      by true e =
          let same : row ≡ r.0 = grind (arith, nat_tests) in
          subst (λ (k : ℕ). Here bay (record { 0 = k })) same here
      by false e = let apart : r.0 < row = grind (arith, nat_tests) in below r apart

  all-there : (p : Progress) (bay : BayNo) → Sound p → p.gone ≡ Some (record { bay = bay; fitted = true }) → ((r : RowNo) → r.0 < script.rows → Here bay r) →
      (at : BayNo) (row : RowNo) → at.0 < script.n → row.0 < script.rows → Here at row
  all-there p bay s gone all at row within below = by (bay.0 == at.0) refl
    where
      by : (b : Bool) → (bay.0 == at.0) ≡ b → Here at row
      by true e =
          let same : bay.0 ≡ at.0 = grind (arith, nat_tests) in
          let place : bay ≡ at = ap (λ (k : ℕ). record { 0 = k }) same in
          subst (λ (b : BayNo). Here b row) place (all row below)
      by false e =
          let apart : (bay.0 ≡ at.0) → ⊥ = λ same. absurd (grind (arith, nat_tests)) in
          s.others at row within below (λ g. apart (subst (IsGone at) gone g))

  mended-safe : (p : Progress) (job : Job) (jobs : List Job) → p.jobs ≡ job ∷ jobs → (bay : BayNo) → job.task ≡ tasks.Rebuild bay → Sound p →
      p.gone ≡ Some (record { bay = bay; fitted = true }) → ((r : RowNo) → r.0 < p.row + 1 → Here bay r) →
      (last : Bool) → (p.row + 1 == script.rows) ≡ last → Safe (row_mended script host p last)
  mended-safe p job jobs first bay task s gone below true e =
      let rows : p.row + 1 ≡ script.rows = grind (arith, nat_tests) in
      let there = all-there p bay s gone (λ r less. below r (omega (arith, less, rows))) in
      ended-safe (record p { gone = None }) job_ends.Rebuilt [] (record { tasks = s.tasks; others = λ at row within less none. there at row within less; lost = λ at bare. absurd (unfitted at (s.lost at bare)); row = s.row })
    where
      unfitted : (at : BayNo) → p.gone ≡ Some (record { bay = at; fitted = false }) → ⊥
      unfitted at out = let both : false ≡ true = ap is_fitted (sym out ∙ gone) in cc
  mended-safe p job jobs first bay task s gone below false e =
      let before = s.row in
      let more : p.row + 1 < script.rows = grind (arith, nat_tests) in
      more-safe p (next_row p) refl s (record { tasks = s.tasks; others = s.others; lost = s.lost; row = more })
      (subst (λ (js : List Job). ReadyFirst js p.gone (p.row + 1)) (sym first)
      (subst (λ (t : Task). Ready t p.gone (p.row + 1)) (sym task) (gone, below)))
      (stops p)

  mended-as : (p : Progress) (job : Job) (jobs : List Job) → p.jobs ≡ job ∷ jobs → Sound p → (task : Task) → job.task ≡ task → Ready task p.gone p.row → Filled task p.row →
      (last : Bool) → (p.row + 1 == script.rows) ≡ last → Safe (row_mended script host p last)
  mended-as p job jobs first s (tasks.Read object begin count) same ready filled last e = absurd filled
  mended-as p job jobs first s (tasks.Write object begin from count) same ready filled last e = absurd filled
  mended-as p job jobs first s (tasks.Recover at) same ready filled last e = absurd filled
  mended-as p job jobs first s (tasks.Lose bay) same ready filled last e = absurd filled
  mended-as p job jobs first s (tasks.Fit bay) same ready filled last e = absurd filled
  mended-as p job jobs first s (tasks.Rebuild bay) same ready filled last e =
      mended-safe p job jobs first bay same s ready.0 (below-next bay p.row ready.1 filled) last e

  -- an attempt of the job in hand ends
  attempt-safe : (p : Progress) (job : Job) (jobs : List Job) → p.jobs ≡ job ∷ jobs → Sound p → Ready job.task p.gone p.row → (read : List Content) (result : Ended) →
      (result ≡ ends.Mended → Filled job.task p.row) → Safe (attempt_ended script host p read result)
  attempt-safe p job jobs first s ready read (ends.Read n) filled = ended-safe p (job_ends.Read n) read s
  attempt-safe p job jobs first s ready read (ends.Wrote n) filled = ended-safe p (job_ends.Wrote n) [] s
  attempt-safe p job jobs first s ready read (ends.Part n made cause) filled = ended-safe p (job_ends.Part n made cause) [] s
  attempt-safe p job jobs first s ready read (ends.Recovered n closed lost) filled = ended-safe p (job_ends.Recovered n closed lost) [] s
  attempt-safe p job jobs first s ready read (ends.Refused cause) filled =
      refused-safe p cause s (subst (λ (js : List Job). ReadyFirst js p.gone p.row) (sym first) ready) ((p.tries == script.tries) || is_spent cause)
  attempt-safe p job jobs first s ready read ends.Mended filled = mended-as p job jobs first s job.task refl ready (filled refl) (p.row + 1 == script.rows) refl

  -- steps that are left
  pub left-safe : (p : Progress) → Sound p → (js : List Job) → p.jobs ≡ js → (steps : Steps Finish) → SafeSteps js p.gone p.row steps → Safe (steps_left script host p steps)
  left-safe p s [] same steps f = absurd f
  left-safe p s (job ∷ jobs) same (Asks e t c k) f = go (stops p)
    where
      go : (stopped : Bool) → Safe (asks_on p (Asks e t c k) t stopped)
      go true =
          let n = next-sound p (quit_end p.tries t) [] s in
          record { sound = record { tasks = n.tasks; others = n.others; lost = n.lost; row = n.row }; work = tt }
      go false = record {
        sound = record { tasks = s.tasks; others = s.others; lost = s.lost; row = s.row };
        work = subst (λ (xs : List Job). SafeSteps xs p.gone p.row (Asks e t c k)) (sym same) f;
      }
  left-safe p s (job ∷ jobs) same (Draws k) f = record { sound = record { tasks = s.tasks; others = s.others; lost = s.lost; row = s.row }; work = tt }
  left-safe p s (job ∷ jobs) same (Ends f) h = attempt-safe p job jobs same s h.ready f.contents f.ended (λ e. h.here (h.mends e))

  -- before its first job
  pub begins-safe : ((at : BayNo) (row : RowNo) → at.0 < script.n → row.0 < script.rows → Here at row) → ((at : BayNo) → Empty at → ⊥) → Safe (at_start script host)
  begins-safe all none =
      start-safe (jobs_of script host) (before_start script host) refl refl (record {
        tasks = host-tasks script is host;
        others = λ at row within below free. all at row within below;
        lost = λ at bare. absurd (none at bare);
        row = let least = is.rows_least in omega (arith, least);
      })
