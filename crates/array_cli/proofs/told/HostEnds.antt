-- What a result tells that has no number keeps its range: tries, bays, blocks and rows.
use Rattle.std.proofs.Common.{◌≡◌, refl, sym, subst, ◌∙◌, ℕ, ◌+◌, ◌-◌, ◌*◌, ◌/◌, ◌^◌, ◌<◌, ◌≤◌, ◌==◌, ◌||◌, Bool, true, false, cond, nat_lt, List, [], ◌∷◌, take, drop, length, find, IfSome, Option, Some, None, Result, Ok, Err, arith}
use Rattle.std.specs.List.{AllByRecursion, All}
use Rattle.std.proofs.lemmas.List.Elements.{recursion_from_All}
use Rattle.std.proofs.lemmas.Nat.{mul-le}
use Rattle.raid_base.specs.declared.numbers.BayNo.{BayNo}
use Rattle.raid_base.specs.declared.numbers.HostNo.{HostNo}
use Rattle.raid_base.specs.declared.numbers.RowNo.{RowNo}
use Rattle.raid_base.specs.declared.numbers.Number.{Number}
use Rattle.raid_base.specs.declared.numbers.Spent.{Spent}
use Rattle.raid_base.specs.declared.names.Name.{Name}
use Rattle.raid_base.specs.declared.cells.Content.{Content}
use Rattle.raid_base.specs.declared.messages.Call.{Call}
use Rattle.raid_base.specs.declared.messages.Reply.{Reply}
use Rattle.raid_base.specs.declared.jobs.Job.{Job}
use Rattle.raid_base.specs.declared.jobs.Task.{Task}
use Rattle.raid_base.specs.declared.jobs.Task.TheVariants as tasks
use Rattle.raid_base.specs.declared.jobs.RowPart.{RowPart}
use Rattle.raid_base.specs.declared.jobs.PartsFault.{PartsFault}
use Rattle.raid_base.specs.declared.jobs.PartsFault.TheVariants as faults
use Rattle.raid_base.specs.declared.jobs.Cause.{Cause}
use Rattle.raid_base.specs.declared.jobs.Cause.TheVariants as causes
use Rattle.raid_base.specs.declared.jobs.Ended.{Ended}
use Rattle.raid_base.specs.declared.jobs.Ended.TheVariants as ends
use Rattle.raid_base.specs.declared.jobs.JobEnd.{JobEnd}
use Rattle.raid_base.specs.declared.jobs.JobEnd.TheVariants as job_ends
use Rattle.raid_base.specs.Numbers.{draw}
use Rattle.raid_base.specs.Steps.{Steps, Asks, Draws, Ends, Standing, told}
use Rattle.virtual_objects.specs.Objects.{rows_of, rows_touched, parts_from, parts_in, parts_found}
use Rattle.virtual_objects.proofs.TableLemmas.{rows_few}
use Rattle.attempts.specs.Taking.{Finish}
use Rattle.attempts.proofs.RoomLemmas.{all-append}
use Rattle.script_text.specs.Script.{Script, HostJobs, jobs_in, jobs_of, parts_of}
use Rattle.script_text.specs.Ranges.{IsScript, IsTask, IsJob, table_of}
use Rattle.histories.specs.declared.operator.Gone.{Gone}
use Rattle.histories.specs.Operator.{is_gone}
use Rattle.histories.specs.Progress.{Ending, Work, Trying, Losing, Fitting, Over, Progress, endings_of, with_ending, next_job, try_with, one_more, parts_end, try_parts, lose_job, fit_job, rebuild_job, start_task, start_jobs, stops, go_on, job_ended, task_of, try_again, once_more, is_spent, attempt_refused, next_row, row_mended, attempt_ended, quit_end, asks_on, steps_left, work_told, call_counted}
use Rattle.histories.specs.History.{if_taken, progress_at, endings_at}
use Rattle.histories.proofs.bounds.BoundsTakes.{before_start}
use Rattle.histories.proofs.steps.SameNumbers.{same-host}

-- what an end without a number tells
abbrev pub PlainIn : Script → JobEnd → Type 0
PlainIn script (job_ends.Read n) = Unit {0}
PlainIn script (job_ends.Wrote n) = Unit {0}
PlainIn script (job_ends.Part n made cause) = Unit {0}
PlainIn script (job_ends.Recovered n closed lost) = Unit {0}
PlainIn script job_ends.Lost = Unit {0}
PlainIn script job_ends.Fitted = Unit {0}
PlainIn script job_ends.Rebuilt = Unit {0}
PlainIn script (job_ends.Gave tries cause) = 1 ≤ tries
PlainIn script (job_ends.StillMissing bay) = bay.0 < script.n
PlainIn script (job_ends.NotLost bay) = bay.0 < script.n
PlainIn script (job_ends.NotFitted bay) = bay.0 < script.n
PlainIn script job_ends.NoObject = Unit {0}
PlainIn script (job_ends.PastEnd blocks) = blocks ≤ 2 ^ 32 - 1
PlainIn script (job_ends.TooManyRows rows) = rows ≤ 2 ^ 32 - 1

-- a result of a task that the host may have
pub record EndsIn (script : Script) (host : HostNo) (e : Ending) : Type 0 where
  pub task : IsTask script host e.job.task
  pub plain : PlainIn script e.ended

-- a part of a number, and no more than it
div-few : (k d : ℕ) → k / d ≤ k
div-few k d = grind (arith)

module _ (script : Script) (is : IsScript script) (host : HostNo) where
  -- Parts. An object has no more rows than there are
  abbrev width : ℕ
  width = script.n - 1

  abbrev some-parts : ℕ → ℕ → List RowNo → List RowPart
  some-parts first count rows =
      parts_from width first (first + count) (first / width) (take (rows_touched width first count) (drop (first / width) rows))

  in-range : (first count : ℕ) (rows : List RowNo) → length rows ≤ 4096 → first < 2 ^ 20 → count ≤ 120 → (r : Result (List RowPart) PartsFault) → parts_in (script.n - 1) first count rows ≡ r →
      (fault : PartsFault) → r ≡ Err fault → PlainIn script (parts_end fault)
  in-range first count rows few low short r is_r fault e =
      past (nat_lt (length rows * (script.n - 1)) (first + count)) (is_r ∙ e)
    where
      touched : (b : Bool) → cond b (Err (faults.TooManyRows (rows_touched width first count))) (Ok (some-parts first count rows)) ≡ Err fault → PlainIn script (parts_end fault)
      touched true f =
          let same : faults.TooManyRows (rows_touched width first count) ≡ fault = cc in
          subst (λ (x : PartsFault). PlainIn script (parts_end x)) same (let less = div-few (first + count - 1) width in omega (arith, less, low, short))
      touched false f = absurd (cc)

      past : (b : Bool) → cond b (Err (faults.PastEnd (length rows * width))) (cond (nat_lt 8 (rows_touched width first count)) (Err (faults.TooManyRows (rows_touched width first count))) (Ok (some-parts first count rows))) ≡ Err fault →
          PlainIn script (parts_end fault)
      past true f =
          let same : faults.PastEnd (length rows * width) ≡ fault = cc in
          let most : script.n ≤ 16 = is.devices_most in
          let all : length rows * width ≤ 4096 * 16 = mul-le (length rows) width 4096 16 few (omega (arith, most)) in
          subst (λ (x : PartsFault). PlainIn script (parts_end x)) same (omega (arith, all))
      past false f = touched (nat_lt 8 (rows_touched width first count)) f

  found-range : (object : Name) (first count : ℕ) → first < 2 ^ 20 → count ≤ 120 → (o : Option (List RowNo)) → rows_of script.objects object ≡ o →
      (fault : PartsFault) → parts_found (script.n - 1) first count o ≡ Err fault → PlainIn script (parts_end fault)
  found-range object first count low short None found fault e =
      let same : faults.NoObject ≡ fault = cc in subst (λ (x : PartsFault). PlainIn script (parts_end x)) same tt
  found-range object first count low short (Some rows) found fault e =
      let few = rows_few (table_of script) object rows is.objects found in
      let most : script.rows ≤ 4096 = is.rows_most in
      in-range first count rows (omega (arith, few, most)) low short (parts_in (script.n - 1) first count rows) refl fault e

  parts-range : (object : Name) (first count : ℕ) → first < 2 ^ 20 → count ≤ 120 → (fault : PartsFault) → parts_of script object first count ≡ Err fault → PlainIn script (parts_end fault)
  parts-range object first count low short fault e = found-range object first count low short (rows_of script.objects object) refl fault e

  -- Where a host stands
  abbrev AreTasks : List Job → Type 0
  AreTasks jobs = AllByRecursion (λ (job : Job). IsTask script host job.task) jobs

  abbrev AreIn : List Ending → Type 0
  AreIn endings = AllByRecursion (EndsIn script host) endings

  abbrev HasTries : ℕ → Work → Type 0
  HasTries tries (Trying steps) = 1 ≤ tries
  HasTries tries (Losing bay) = bay.0 < script.n
  HasTries tries (Fitting bay) = bay.0 < script.n
  HasTries tries Over = Unit {0}

  record Fine (p : Progress) : Type 0 where
    before : AreIn p.endings
    jobs : AreTasks p.jobs
    gone : IfSome p.gone (λ (g : Gone). g.bay.0 < script.n)

  record Stands (p : Progress) : Type 0 where
    fine : Fine p
    tries : HasTries p.tries p.work

  rest-tasks : (jobs : List Job) → AreTasks jobs → AreTasks (drop 1 jobs)
  rest-tasks [] h = tt
  rest-tasks (job ∷ jobs) h = h.1

  one-ended : (p : Progress) (e : JobEnd) (read : List Content) (js : List Job) → AreTasks js → PlainIn script e → AreIn (endings_of js e read p)
  one-ended p e read [] h is_in = tt
  one-ended p e read (job ∷ jobs) h is_in = (record { task = h.0; plain = is_in }, tt)

  next-fine : (p : Progress) (e : JobEnd) (read : List Content) → Fine p → PlainIn script e → Fine (next_job (with_ending p e read))
  next-fine p e read f is_in = record {
    before = all-append (EndsIn script host) p.endings (endings_of p.jobs e read p) f.before (one-ended p e read p.jobs f.jobs is_in);
    jobs = rest-tasks p.jobs f.jobs;
    gone = f.gone;
  }

  -- where it goes on
  abbrev Begins : (Progress → Progress) → Type 0
  Begins rest = (q : Progress) → Fine q → Stands (rest q)

  module _ (rest : Progress → Progress) (begins : Begins rest) where
    skips : (p : Progress) (e : JobEnd) → Fine p → PlainIn script e → Stands (rest (next_job (with_ending p e [])))
    skips p e f is_in = begins (next_job (with_ending p e [])) (next-fine p e [] f is_in)

    tries-fine : (task : Task) (p : Progress) (d : Result Number Spent) → Fine p → Stands (try_with script host task rest (one_more p) d)
    tries-fine task p (Ok id) f = record { fine = record { before = f.before; jobs = f.jobs; gone = f.gone }; tries = omega arith }
    tries-fine task p (Err spent) f =
        skips (one_more p) (job_ends.Gave (p.tries + 1) (causes.Spent spent.seen)) (record { before = f.before; jobs = f.jobs; gone = f.gone }) (omega arith)

    parts-fine : (task : Task) (p : Progress) (r : Result (List RowPart) PartsFault) → ((fault : PartsFault) → r ≡ Err fault → PlainIn script (parts_end fault)) → Fine p →
        Stands (try_parts script host task rest p r)
    parts-fine task p (Ok parts) none f = tries-fine task p (draw host p.seen) f
    parts-fine task p (Err fault) none f = skips p (parts_end fault) f (none fault refl)

    loses-fine : (p : Progress) (bay : BayNo) → bay.0 < script.n → Fine p → (gone : Option Gone) → IfSome gone (λ (g : Gone). g.bay.0 < script.n) → Stands (lose_job rest p bay gone)
    loses-fine p bay below f None low = record { fine = record { before = f.before; jobs = f.jobs; gone = f.gone }; tries = below }
    loses-fine p bay below f (Some gone) low = skips p (job_ends.StillMissing gone.bay) f low

    fits-fine : (p : Progress) (bay : BayNo) → bay.0 < script.n → (lost : Bool) → Fine p → Stands (fit_job rest p bay lost)
    fits-fine p bay below true f = record { fine = record { before = f.before; jobs = f.jobs; gone = f.gone }; tries = below }
    fits-fine p bay below false f = skips p (job_ends.NotLost bay) f below

    rebuilds-fine : (p : Progress) (bay : BayNo) → bay.0 < script.n → (fitted : Bool) → Fine p → Stands (rebuild_job script host rest p bay fitted)
    rebuilds-fine p bay below true f = tries-fine (tasks.Rebuild bay) p (draw host p.seen) f
    rebuilds-fine p bay below false f = skips p (job_ends.NotFitted bay) f below

    starts-fine : (task : Task) → IsTask script host task → (p : Progress) → Fine p → Stands (start_task script host rest p task)
    starts-fine (tasks.Read object first count) own p f =
        parts-fine (tasks.Read object first count) p (parts_of script object first count) (λ fault e. parts-range object first count own.low own.few fault e) f
    starts-fine (tasks.Write object first from count) own p f =
        parts-fine (tasks.Write object first from count) p (parts_of script object first count) (λ fault e. parts-range object first count own.low own.few fault e) f
    starts-fine (tasks.Recover row) own p f = tries-fine (tasks.Recover row) p (draw host p.seen) f
    starts-fine (tasks.Lose bay) own p f = loses-fine p bay own.1 f p.gone f.gone
    starts-fine (tasks.Fit bay) own p f = fits-fine p bay own.1 (is_gone bay false p.gone) f
    starts-fine (tasks.Rebuild bay) own p f = rebuilds-fine p bay own.1 (is_gone bay true p.gone) f

  jobs-fine : (jobs : List Job) → AreTasks jobs → Begins (start_jobs script host jobs)
  jobs-fine [] own p f = record { fine = record { before = f.before; jobs = f.jobs; gone = f.gone }; tries = tt }
  jobs-fine (job ∷ jobs) own p f = starts-fine (start_jobs script host jobs) (jobs-fine jobs own.1) job.task own.0 p f

  on-fine : (q : Progress) (stopped : Bool) → AreTasks (drop 1 q.jobs) → Fine (next_job q) → Stands (go_on script host q stopped)
  on-fine q true own f = record { fine = record { before = f.before; jobs = f.jobs; gone = f.gone }; tries = tt }
  on-fine q false own f = jobs-fine (drop 1 q.jobs) own (next_job q) f

  ended-fine : (p : Progress) (e : JobEnd) (read : List Content) → Fine p → PlainIn script e → Stands (job_ended script host p e read)
  ended-fine p e read f is_in = on-fine (with_ending p e read) (stops p) (rest-tasks p.jobs f.jobs) (next-fine p e read f is_in)

  again-fine : (later : Progress) (o : Option Task) → Fine later → Stands (try_again script host later o)
  again-fine later None f = record { fine = record { before = f.before; jobs = f.jobs; gone = f.gone }; tries = tt }
  again-fine later (Some task) f = tries-fine (start_jobs script host (drop 1 later.jobs)) (jobs-fine (drop 1 later.jobs) (rest-tasks later.jobs f.jobs)) task later (draw host later.seen) f

  once-fine : (p later : Progress) (stopped : Bool) → 1 ≤ p.tries → Fine p → Fine later → Stands (once_more script host p later stopped)
  once-fine p later true some f g = ended-fine p (job_ends.Gave p.tries causes.Quit) [] f some
  once-fine p later false some f g = again-fine later (task_of p.jobs) g

  refused-fine : (p : Progress) (cause : Cause) (last : Bool) → 1 ≤ p.tries → Fine p → Stands (attempt_refused script host p cause last)
  refused-fine p cause true some f = ended-fine p (job_ends.Gave p.tries cause) [] f some
  refused-fine p cause false some f = once-fine p p (stops p) some f f

  mended-fine : (p : Progress) (last : Bool) → 1 ≤ p.tries → Fine p → Stands (row_mended script host p last)
  mended-fine p true some f = ended-fine (record p { gone = None }) job_ends.Rebuilt [] (record { before = f.before; jobs = f.jobs; gone = tt }) tt
  mended-fine p false some f = once-fine p (next_row p) (stops p) some f (record { before = f.before; jobs = f.jobs; gone = f.gone })

  attempt-fine : (p : Progress) (read : List Content) (ended : Ended) → 1 ≤ p.tries → Fine p → Stands (attempt_ended script host p read ended)
  attempt-fine p read (ends.Read n) some f = ended-fine p (job_ends.Read n) read f tt
  attempt-fine p read (ends.Wrote n) some f = ended-fine p (job_ends.Wrote n) [] f tt
  attempt-fine p read (ends.Part n made cause) some f = ended-fine p (job_ends.Part n made cause) [] f tt
  attempt-fine p read (ends.Recovered n closed lost) some f = ended-fine p (job_ends.Recovered n closed lost) [] f tt
  attempt-fine p read (ends.Refused cause) some f = refused-fine p cause ((p.tries == script.tries) || is_spent cause) some f
  attempt-fine p read ends.Mended some f = mended-fine p (p.row + 1 == script.rows) some f

  quit-in : (tries : ℕ) (stop : Ended) → 1 ≤ tries → PlainIn script (quit_end tries stop)
  quit-in tries (ends.Read n) some = tt
  quit-in tries (ends.Wrote n) some = tt
  quit-in tries (ends.Part n made cause) some = tt
  quit-in tries (ends.Recovered n closed lost) some = tt
  quit-in tries (ends.Refused cause) some = some
  quit-in tries ends.Mended some = some

  asks-fine : (p : Progress) (steps : Steps Finish) (stop : Ended) (stopped : Bool) → 1 ≤ p.tries → Fine p → Stands (asks_on p steps stop stopped)
  asks-fine p steps stop true some f =
      let n = next-fine p (quit_end p.tries stop) [] f (quit-in p.tries stop some) in record { fine = record { before = n.before; jobs = n.jobs; gone = n.gone }; tries = tt }
  asks-fine p steps stop false some f = record { fine = record { before = f.before; jobs = f.jobs; gone = f.gone }; tries = some }

  left-fine : (p : Progress) (steps : Steps Finish) → 1 ≤ p.tries → Fine p → Stands (steps_left script host p steps)
  left-fine p (Asks e t c go) some f = asks-fine p (Asks e t c go) t (stops p) some f
  left-fine p (Draws go) some f = record { fine = record { before = f.before; jobs = f.jobs; gone = f.gone }; tries = tt }
  left-fine p (Ends finish) some f = attempt-fine p finish.contents finish.ended some f

  told-fine : (p : Progress) (reply : Reply) (work : Work) → p.work ≡ work → HasTries p.tries work → Fine p → Stands (work_told script host p reply work)
  told-fine p reply (Trying steps) same some f =
      let now : Standing Finish = told host (record { seen = p.seen; steps = steps }) reply in
      left-fine (record p { seen = now.seen }) now.steps some (record { before = f.before; jobs = f.jobs; gone = f.gone })
  told-fine p reply (Losing bay) same below f =
      ended-fine (record p { gone = Some (record { bay = bay; fitted = false }) }) job_ends.Lost [] (record { before = f.before; jobs = f.jobs; gone = below }) tt
  told-fine p reply (Fitting bay) same below f =
      ended-fine (record p { gone = Some (record { bay = bay; fitted = true }) }) job_ends.Fitted [] (record { before = f.before; jobs = f.jobs; gone = below }) tt
  told-fine p reply Over same any f = record { fine = f; tries = subst (HasTries p.tries) (sym same) tt }

  taken-fine : (p : Progress) (call : Call) (own : Bool) → Stands p → Stands (if_taken script host p call own)
  taken-fine p call true s =
      told-fine (call_counted p call) call.answer.reply p.work refl s.tries (record { before = s.fine.before; jobs = s.fine.jobs; gone = s.fine.gone })
  taken-fine p call false s = s

  -- the jobs of a script
  job-tasks : (jobs : List Job) → AllByRecursion (IsJob script host) jobs → AreTasks jobs
  job-tasks [] h = tt
  job-tasks (job ∷ jobs) h = (h.0.task, job-tasks jobs h.1)

  host-tasks : (hosts : List HostJobs) → AllByRecursion (λ (h : HostJobs). All (IsJob script h.host) h.jobs) hosts → AreTasks (jobs_in (find (λ (h : HostJobs). h.host.0 == host.0) hosts))
  host-tasks [] h = tt
  host-tasks (first ∷ hosts) h = by (first.host.0 == host.0) refl (host-tasks hosts h.1)
    where
      by : (b : Bool) → (first.host.0 == host.0) ≡ b → AreTasks (jobs_in (find (λ (x : HostJobs). x.host.0 == host.0) hosts)) →
          AreTasks (jobs_in (cond b (Some first) (find (λ (x : HostJobs). x.host.0 == host.0) hosts)))
      by true e rest =
          job-tasks first.jobs (recursion_from_All (IsJob script host) first.jobs
          (subst (λ (x : HostNo). All (IsJob script x) first.jobs) (same-host first.host host e) h.0))
      by false e rest = rest

  tasks-are : AreTasks (jobs_of script host)
  tasks-are = host-tasks script.hosts (recursion_from_All (λ (h : HostJobs). All (IsJob script h.host) h.jobs) script.hosts is.jobs)

  history-fine : (history : List Call) → Stands (progress_at script host history)
  history-fine [] = jobs-fine (jobs_of script host) tasks-are (before_start script host) (record { before = tt; jobs = tasks-are; gone = tt })
  history-fine (call ∷ earlier) = taken-fine (progress_at script host earlier) call (call.ask.host.0 == host.0) (history-fine earlier)

  pub ends-in : (history : List Call) → AllByRecursion (EndsIn script host) (endings_at script history host)
  ends-in history = (history-fine history).fine.before
