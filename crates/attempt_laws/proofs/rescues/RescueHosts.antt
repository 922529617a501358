-- A host's recoveries while it goes through its jobs: of each that has gone through, what is so of the calls of its last
-- attempt.
use Rattle.std.proofs.Common.{◌≡◌, refl, sym, ap, subst, ◌∙◌, ℕ, ◌+◌, ◌==◌, ◌||◌, Bool, true, false, List, [], ◌∷◌, drop, Option, Some, None, Result, Ok, Err}
use Rattle.std.specs.List.{AllByRecursion}
use Rattle.raid_base.specs.declared.numbers.BayNo.{BayNo}
use Rattle.raid_base.specs.declared.numbers.HostNo.{HostNo}
use Rattle.raid_base.specs.declared.numbers.RowNo.{RowNo}
use Rattle.raid_base.specs.declared.numbers.Number.{Number}
use Rattle.raid_base.specs.declared.numbers.Spent.{Spent}
use Rattle.raid_base.specs.declared.cells.Content.{Content}
use Rattle.raid_base.specs.declared.messages.Call.{Call}
use Rattle.raid_base.specs.declared.messages.Reply.{Reply}
use Rattle.raid_base.specs.declared.jobs.Job.{Job}
use Rattle.raid_base.specs.declared.jobs.Task.{Task}
use Rattle.raid_base.specs.declared.jobs.Task.TheVariants as tasks
use Rattle.raid_base.specs.declared.jobs.RowPart.{RowPart}
use Rattle.raid_base.specs.declared.jobs.PartsFault.{PartsFault}
use Rattle.raid_base.specs.declared.jobs.PartsFault.TheVariants as faults
use Rattle.raid_base.specs.declared.jobs.Cause.{Cause}
use Rattle.raid_base.specs.declared.jobs.Cause.TheVariants as causes
use Rattle.raid_base.specs.declared.jobs.Ended.{Ended}
use Rattle.raid_base.specs.declared.jobs.Ended.TheVariants as ends
use Rattle.raid_base.specs.declared.jobs.JobEnd.{JobEnd}
use Rattle.raid_base.specs.declared.jobs.JobEnd.TheVariants as job_ends
use Rattle.raid_base.specs.Fits.{fits}
use Rattle.raid_base.specs.Numbers.{draw, sees}
use Rattle.raid_base.specs.Steps.{Steps, Asks, Draws, Ends, settled, told, behind, next_errand, errand_of}
use Rattle.attempts.specs.declared.Rescue.{Rescue}
use Rattle.attempts.specs.Taking.{Finish}
use Rattle.attempts.specs.Recovery.{recover_steps}
use Rattle.attempts.proofs.RoomLemmas.{all-append}
use Rattle.script_text.specs.Script.{Script, parts_of}
use Rattle.script_text.specs.Ranges.{IsTask}
use Rattle.histories.specs.declared.operator.Gone.{Gone}
use Rattle.histories.specs.Operator.{is_gone}
use Rattle.histories.specs.Progress.{Ending, Work, Trying, Losing, Fitting, Over, Progress, work_errand, endings_of, with_ending, next_job, attempt, try_with, one_more, try_task, parts_end, try_parts, lose_job, fit_job, rebuild_job, start_task, start_jobs, stops, go_on, job_ended, task_of, try_again, once_more, is_spent, attempt_refused, next_row, row_mended, attempt_ended, quit_end, asks_on, steps_left, work_told, call_counted}
use Rattle.attempt_laws.proofs.rescues.RescueTrees.{IsUnclosed, IsRescue, RescueEnd, Rescues, recoveries-rescue, settled-rescues, behind-rescues}

abbrev pub IfClosed : Bool → Type 0 → Type 0
IfClosed true P = P
IfClosed false P = Unit {0}

-- a job did not end as a recovery
abbrev IsNoRescue : JobEnd → Type 0
IsNoRescue (job_ends.Recovered n closed lost) = ⊥
IsNoRescue _ = Unit {0}

parts-none : (fault : PartsFault) → IsNoRescue (parts_end fault)
parts-none faults.NoObject = tt
parts-none (faults.PastEnd blocks) = tt
parts-none (faults.TooManyRows rows) = tt

module _ (script : Script) (host : HostNo) where
  abbrev pub rescue_of : Number → RowNo → Rescue
  rescue_of id row = record { n = script.n; host = host; id = id; row = row }

  abbrev pub ClosedFacts : RowNo → JobEnd → List Call → Type 0
  ClosedFacts row (job_ends.Recovered n closed lost) calls = IfClosed closed ((id : Number) × IsRescue (rescue_of id row) script.mode calls)
  ClosedFacts row _ calls = Unit {0}

  -- what is so of a job that ended so after these calls
  abbrev pub FactsOf : Task → JobEnd → List Call → Type 0
  FactsOf (tasks.Recover row) ended calls = ClosedFacts row ended calls
  FactsOf _ ended calls = Unit {0}

  abbrev pub EndFacts : Ending → Type 0
  EndFacts e = IsTask script host e.job.task × FactsOf e.job.task e.ended e.calls

  abbrev AreTasks : List Job → Type 0
  AreTasks jobs = AllByRecursion (λ (job : Job). IsTask script host job.task) jobs

  no-facts : (row : RowNo) (e : JobEnd) (calls : List Call) → IsNoRescue e → ClosedFacts row e calls
  no-facts row (job_ends.Recovered n closed lost) calls none = absurd none
  no-facts row (job_ends.Part n made cause) calls none = tt
  no-facts row (job_ends.Gave tries cause) calls none = tt
  no-facts row (job_ends.Read n) calls none = tt
  no-facts row (job_ends.Wrote n) calls none = tt
  no-facts row job_ends.Lost calls none = tt
  no-facts row job_ends.Fitted calls none = tt
  no-facts row job_ends.Rebuilt calls none = tt
  no-facts row (job_ends.StillMissing bay) calls none = tt
  no-facts row (job_ends.NotLost bay) calls none = tt
  no-facts row (job_ends.NotFitted bay) calls none = tt
  no-facts row job_ends.NoObject calls none = tt
  no-facts row (job_ends.PastEnd blocks) calls none = tt
  no-facts row (job_ends.TooManyRows rows) calls none = tt

  nothing : (task : Task) (e : JobEnd) (calls : List Call) → IsNoRescue e → FactsOf task e calls
  nothing (tasks.Recover row) e calls none = no-facts row e calls none
  nothing (tasks.Read object first count) e calls none = tt
  nothing (tasks.Write object first from count) e calls none = tt
  nothing (tasks.Lose bay) e calls none = tt
  nothing (tasks.Fit bay) e calls none = tt
  nothing (tasks.Rebuild bay) e calls none = tt

  -- an attempt of a task after these calls, and at its end
  abbrev pub TaskHand : Task → List Call → Steps Finish → Type 0
  TaskHand (tasks.Recover row) calls steps = (id : Number) × Rescues (rescue_of id row) script.mode calls steps
  TaskHand _ calls steps = Unit {0}

  abbrev TaskEnd : Task → List Call → Ended → Type 0
  TaskEnd (tasks.Recover row) calls result = (id : Number) × RescueEnd (rescue_of id row) script.mode calls result
  TaskEnd _ calls result = Unit {0}

  hand-end : (task : Task) (calls : List Call) (f : Finish) → TaskHand task calls (Ends f) → TaskEnd task calls f.ended
  hand-end (tasks.Recover row) calls f h = h
  hand-end (tasks.Read object first count) calls f h = tt
  hand-end (tasks.Write object first from count) calls f h = tt
  hand-end (tasks.Lose bay) calls f h = tt
  hand-end (tasks.Fit bay) calls f h = tt
  hand-end (tasks.Rebuild bay) calls f h = tt

  task-begins : (row : ℕ) (id : Number) (task : Task) → TaskHand task [] (settled host id (attempt script host id row task)).steps
  task-begins row id (tasks.Recover at) =
      let r : Rescue = rescue_of id at in
      (id, settled-rescues r script.mode host id [] (recover_steps r) (recoveries-rescue r script.mode))
  task-begins row id (tasks.Read object first count) = tt
  task-begins row id (tasks.Write object first from count) = tt
  task-begins row id (tasks.Lose bay) = tt
  task-begins row id (tasks.Fit bay) = tt
  task-begins row id (tasks.Rebuild bay) = tt

  task-told : (task : Task) (seen : Number) (calls : List Call) (steps : Steps Finish) (call : Call) → TaskHand task calls steps → next_errand steps ≡ Some (errand_of call) → fits call.ask.what call.answer.reply ≡ true →
      TaskHand task (call ∷ calls) (told host (record { seen = seen; steps = steps }) call.answer.reply).steps
  task-told (tasks.Recover row) seen calls steps call h asked fit =
      (h.0, settled-rescues (rescue_of h.0 row) script.mode host (sees seen call.answer.reply) (call ∷ calls) (behind steps call.answer.reply) (behind-rescues (rescue_of h.0 row) script.mode calls steps call h.1 asked fit))
  task-told (tasks.Read object first count) seen calls steps call h asked fit = tt
  task-told (tasks.Write object first from count) seen calls steps call h asked fit = tt
  task-told (tasks.Lose bay) seen calls steps call h asked fit = tt
  task-told (tasks.Fit bay) seen calls steps call h asked fit = tt
  task-told (tasks.Rebuild bay) seen calls steps call h asked fit = tt

  -- where the host stops, or the recovery has gone through
  if-unclosed : (closed : Bool) (P : Type 0) → closed ≡ false → IfClosed closed P
  if-unclosed false P e = tt
  if-unclosed true P e = absurd (let bad : true ≡ false = e in cc)

  stop-closed : (row : RowNo) (tries : ℕ) (stop : Ended) (calls : List Call) → IsUnclosed stop → ClosedFacts row (quit_end tries stop) calls
  stop-closed row tries (ends.Recovered n closed lost) calls u = if-unclosed closed _ u
  stop-closed row tries (ends.Read n) calls u = tt
  stop-closed row tries (ends.Wrote n) calls u = tt
  stop-closed row tries (ends.Part n made cause) calls u = tt
  stop-closed row tries (ends.Refused cause) calls u = tt
  stop-closed row tries ends.Mended calls u = tt

  stop-facts : (task : Task) (tries : ℕ) (e : _) (t : Ended) (c : _) (k : Reply → Steps Finish) (calls : List Call) → TaskHand task calls (Asks e t c k) → FactsOf task (quit_end tries t) calls
  stop-facts (tasks.Recover row) tries e t c k calls h = stop-closed row tries t calls h.1.1
  stop-facts (tasks.Read object first count) tries e t c k calls h = tt
  stop-facts (tasks.Write object first from count) tries e t c k calls h = tt
  stop-facts (tasks.Lose bay) tries e t c k calls h = tt
  stop-facts (tasks.Fit bay) tries e t c k calls h = tt
  stop-facts (tasks.Rebuild bay) tries e t c k calls h = tt

  closed-facts : (row : RowNo) (n : Number) (closed : Bool) (lost : _) (calls : List Call) (id : Number) → RescueEnd (rescue_of id row) script.mode calls (ends.Recovered n closed lost) →
      ClosedFacts row (job_ends.Recovered n closed lost) calls
  closed-facts row n true lost calls id h = (id, h)
  closed-facts row n false lost calls id h = tt

  end-facts : (task : Task) (n : Number) (closed : Bool) (lost : _) (calls : List Call) → TaskEnd task calls (ends.Recovered n closed lost) → FactsOf task (job_ends.Recovered n closed lost) calls
  end-facts (tasks.Recover row) n closed lost calls h = closed-facts row n closed lost calls h.0 h.1
  end-facts (tasks.Read object first count) n closed lost calls h = tt
  end-facts (tasks.Write object first from count) n closed lost calls h = tt
  end-facts (tasks.Lose bay) n closed lost calls h = tt
  end-facts (tasks.Fit bay) n closed lost calls h = tt
  end-facts (tasks.Rebuild bay) n closed lost calls h = tt

  -- Where the host stands
  abbrev Tries : List Job → List Call → Steps Finish → Type 0
  Tries [] calls steps = Unit {0}
  Tries (job ∷ jobs) calls steps = TaskHand job.task calls steps

  abbrev Works : List Job → List Call → Work → Type 0
  Works jobs calls (Trying steps) = Tries jobs calls steps
  Works jobs calls (Losing bay) = Unit {0}
  Works jobs calls (Fitting bay) = Unit {0}
  Works jobs calls Over = Unit {0}

  pub record Sound (p : Progress) : Type 0 where
    pub jobs : AreTasks p.jobs
    pub ends : AllByRecursion EndFacts p.endings

  pub record Safe (p : Progress) : Type 0 where
    pub sound : Sound p
    pub work : Works p.jobs p.calls p.work

  abbrev First : List Job → JobEnd → List Call → Type 0
  First [] e calls = Unit {0}
  First (job ∷ jobs) e calls = FactsOf job.task e calls

  first-none : (js : List Job) (e : JobEnd) (calls : List Call) → IsNoRescue e → First js e calls
  first-none [] e calls none = tt
  first-none (job ∷ jobs) e calls none = nothing job.task e calls none

  one-ended : (p : Progress) (e : JobEnd) (read : List Content) (js : List Job) → AreTasks js → First js e p.calls → AllByRecursion EndFacts (endings_of js e read p)
  one-ended p e read [] tasks h = tt
  one-ended p e read (job ∷ jobs) tasks h = ((tasks.0, h), tt)

  rest-tasks : (js : List Job) → AreTasks js → AreTasks (drop 1 js)
  rest-tasks [] h = tt
  rest-tasks (job ∷ jobs) h = h.1

  next-sound : (p : Progress) (e : JobEnd) (read : List Content) → Sound p → First p.jobs e p.calls → Sound (next_job (with_ending p e read))
  next-sound p e read s h = record {
    jobs = rest-tasks p.jobs s.jobs;
    ends = all-append EndFacts p.endings (endings_of p.jobs e read p) s.ends (one-ended p e read p.jobs s.jobs h);
  }

  abbrev GoesOn : List Job → (Progress → Progress) → Type 0
  GoesOn jobs rest = (q : Progress) → q.jobs ≡ jobs → Sound q → Safe (rest q)

  module _ (rest : Progress → Progress) (job : Job) (jobs : List Job) (goes_on : GoesOn jobs rest) (p : Progress) (first : p.jobs ≡ job ∷ jobs) (s : Sound p) where
    skips : (q : Progress) (e : JobEnd) → q.jobs ≡ job ∷ jobs → Sound q → IsNoRescue e → Safe (rest (next_job (with_ending q e [])))
    skips q e same sound none = goes_on (next_job (with_ending q e [])) (ap (drop 1) same) (next-sound q e [] sound (first-none q.jobs e q.calls none))

    tries-with : (d : Result Number Spent) → Safe (try_with script host job.task rest (one_more p) d)
    tries-with (Ok id) = record {
      sound = record { jobs = s.jobs; ends = s.ends };
      work = subst (λ (js : List Job). Tries js [] (settled host id (attempt script host id p.row job.task)).steps) (sym first) (task-begins p.row id job.task);
    }
    tries-with (Err spent) = skips (one_more p) (job_ends.Gave (p.tries + 1) (causes.Spent spent.seen)) first (record { jobs = s.jobs; ends = s.ends }) tt

    tries : Safe (try_task script host job.task rest p)
    tries = tries-with (draw host p.seen)

    tries-as : (task : Task) → job.task ≡ task → Safe (try_task script host task rest p)
    tries-as task same = subst (λ (t : Task). Safe (try_task script host t rest p)) same tries

    parts-begin : (task : Task) → job.task ≡ task → (r : Result (List RowPart) PartsFault) → Safe (try_parts script host task rest p r)
    parts-begin task same (Ok parts) = tries-as task same
    parts-begin task same (Err fault) = skips p (parts_end fault) first s (parts-none fault)

    loses : (bay : BayNo) (gone : Option Gone) → Safe (lose_job rest p bay gone)
    loses bay None = record { sound = record { jobs = s.jobs; ends = s.ends }; work = tt }
    loses bay (Some gone) = skips p (job_ends.StillMissing gone.bay) first s tt

    fits-one : (bay : BayNo) (lost : Bool) → Safe (fit_job rest p bay lost)
    fits-one bay true = record { sound = record { jobs = s.jobs; ends = s.ends }; work = tt }
    fits-one bay false = skips p (job_ends.NotLost bay) first s tt

    rebuilds : (bay : BayNo) → job.task ≡ tasks.Rebuild bay → (fitted : Bool) → Safe (rebuild_job script host rest p bay fitted)
    rebuilds bay same true = tries-as (tasks.Rebuild bay) same
    rebuilds bay same false = skips p (job_ends.NotFitted bay) first s tt

    starts-as : (task : Task) → job.task ≡ task → Safe (start_task script host rest p task)
    starts-as (tasks.Read object begin count) same = parts-begin (tasks.Read object begin count) same (parts_of script object begin count)
    starts-as (tasks.Write object begin from count) same = parts-begin (tasks.Write object begin from count) same (parts_of script object begin count)
    starts-as (tasks.Recover at) same = tries-as (tasks.Recover at) same
    starts-as (tasks.Lose bay) same = loses bay p.gone
    starts-as (tasks.Fit bay) same = fits-one bay (is_gone bay false p.gone)
    starts-as (tasks.Rebuild bay) same = rebuilds bay same (is_gone bay true p.gone)

    starts : Safe (start_task script host rest p job.task)
    starts = starts-as job.task refl

  pub start-safe : (jobs : List Job) → GoesOn jobs (start_jobs script host jobs)
  start-safe [] p none s = record { sound = record { jobs = s.jobs; ends = s.ends }; work = tt }
  start-safe (job ∷ jobs) p first s = starts (start_jobs script host jobs) job jobs (start-safe jobs) p first s

  -- A job ends
  on-safe : (q : Progress) (stopped : Bool) → Sound (next_job q) → Safe (go_on script host q stopped)
  on-safe q true t = record { sound = record { jobs = t.jobs; ends = t.ends }; work = tt }
  on-safe q false t = start-safe (drop 1 q.jobs) (next_job q) refl t

  ended-safe : (p : Progress) (e : JobEnd) (read : List Content) → Sound p → First p.jobs e p.calls → Safe (job_ended script host p e read)
  ended-safe p e read s h = on-safe (with_ending p e read) (stops p) (next-sound p e read s h)

  none-safe : (p : Progress) (e : JobEnd) (read : List Content) → Sound p → IsNoRescue e → Safe (job_ended script host p e read)
  none-safe p e read s none = ended-safe p e read s (first-none p.jobs e p.calls none)

  again-safe : (p : Progress) (js : List Job) → p.jobs ≡ js → Sound p → Safe (try_again script host p (task_of js))
  again-safe p [] same s = record { sound = record { jobs = s.jobs; ends = s.ends }; work = tt }
  again-safe p (job ∷ jobs) same s =
      tries (start_jobs script host (drop 1 p.jobs)) job jobs (λ q left sound. start-safe (drop 1 p.jobs) q (left ∙ sym (ap (drop 1) same)) sound) p same s

  more-safe : (p later : Progress) → later.jobs ≡ p.jobs → Sound p → Sound later → (stopped : Bool) → Safe (once_more script host p later stopped)
  more-safe p later same s t true = none-safe p (job_ends.Gave p.tries causes.Quit) [] s tt
  more-safe p later same s t false = again-safe later p.jobs same t

  refused-safe : (p : Progress) (cause : Cause) → Sound p → (last : Bool) → Safe (attempt_refused script host p cause last)
  refused-safe p cause s true = none-safe p (job_ends.Gave p.tries cause) [] s tt
  refused-safe p cause s false = more-safe p p refl s s (stops p)

  mended-safe : (p : Progress) → Sound p → (last : Bool) → Safe (row_mended script host p last)
  mended-safe p s true = none-safe (record p { gone = None }) job_ends.Rebuilt [] (record { jobs = s.jobs; ends = s.ends }) tt
  mended-safe p s false = more-safe p (next_row p) refl s (record { jobs = s.jobs; ends = s.ends }) (stops p)

  abbrev FirstEnd : List Job → List Call → Ended → Type 0
  FirstEnd [] calls result = Unit {0}
  FirstEnd (job ∷ jobs) calls result = TaskEnd job.task calls result

  first-end : (js : List Job) (n : Number) (closed : Bool) (lost : _) (calls : List Call) → FirstEnd js calls (ends.Recovered n closed lost) → First js (job_ends.Recovered n closed lost) calls
  first-end [] n closed lost calls h = tt
  first-end (job ∷ jobs) n closed lost calls h = end-facts job.task n closed lost calls h

  attempt-safe : (p : Progress) → Sound p → (read : List Content) (ended : Ended) → FirstEnd p.jobs p.calls ended → Safe (attempt_ended script host p read ended)
  attempt-safe p s read (ends.Read n) h = none-safe p (job_ends.Read n) read s tt
  attempt-safe p s read (ends.Wrote n) h = none-safe p (job_ends.Wrote n) [] s tt
  attempt-safe p s read (ends.Part n made cause) h = none-safe p (job_ends.Part n made cause) [] s tt
  attempt-safe p s read (ends.Recovered n closed lost) h = ended-safe p (job_ends.Recovered n closed lost) [] s (first-end p.jobs n closed lost p.calls h)
  attempt-safe p s read (ends.Refused cause) h = refused-safe p cause s ((p.tries == script.tries) || is_spent cause)
  attempt-safe p s read ends.Mended h = mended-safe p s (p.row + 1 == script.rows)

  -- steps that are left
  first-hand : (js : List Job) (calls : List Call) (f : Finish) → Tries js calls (Ends f) → FirstEnd js calls f.ended
  first-hand [] calls f h = tt
  first-hand (job ∷ jobs) calls f h = hand-end job.task calls f h

  first-stop : (js : List Job) (count : ℕ) (e : _) (t : Ended) (c : _) (k : Reply → Steps Finish) (calls : List Call) → Tries js calls (Asks e t c k) → First js (quit_end count t) calls
  first-stop [] count e t c k calls h = tt
  first-stop (job ∷ jobs) count e t c k calls h = stop-facts job.task count e t c k calls h

  left-safe : (p : Progress) → Sound p → (steps : Steps Finish) → Tries p.jobs p.calls steps → Safe (steps_left script host p steps)
  left-safe p s (Asks e t c k) h = go (stops p)
    where
      go : (stopped : Bool) → Safe (asks_on p (Asks e t c k) t stopped)
      go true =
          let n = next-sound p (quit_end p.tries t) [] s (first-stop p.jobs p.tries e t c k p.calls h) in
          record { sound = record { jobs = n.jobs; ends = n.ends }; work = tt }
      go false = record { sound = record { jobs = s.jobs; ends = s.ends }; work = h }
  left-safe p s (Draws k) h = record { sound = record { jobs = s.jobs; ends = s.ends }; work = tt }
  left-safe p s (Ends f) h = attempt-safe p s f.contents f.ended (first-hand p.jobs p.calls f h)

  -- A call of the host
  first-told : (js : List Job) (seen : Number) (calls : List Call) (steps : Steps Finish) (call : Call) → Tries js calls steps → next_errand steps ≡ Some (errand_of call) → fits call.ask.what call.answer.reply ≡ true →
      Tries js (call ∷ calls) (told host (record { seen = seen; steps = steps }) call.answer.reply).steps
  first-told [] seen calls steps call h asked fit = tt
  first-told (job ∷ jobs) seen calls steps call h asked fit = task-told job.task seen calls steps call h asked fit

  pub work-safe : (p : Progress) (call : Call) (work : Work) → work_errand work ≡ Some (errand_of call) → fits call.ask.what call.answer.reply ≡ true → Sound p → Works p.jobs p.calls work →
      Safe (work_told script host (call_counted p call) call.answer.reply work)
  work-safe p call (Trying steps) asked fit s h =
      left-safe (record (call_counted p call) { seen = (told host (record { seen = p.seen; steps = steps }) call.answer.reply).seen }) (record { jobs = s.jobs; ends = s.ends })
      (told host (record { seen = p.seen; steps = steps }) call.answer.reply).steps (first-told p.jobs p.seen p.calls steps call h asked fit)
  work-safe p call (Losing bay) asked fit s h =
      none-safe (record (call_counted p call) { gone = Some (record { bay = bay; fitted = false }) }) job_ends.Lost [] (record { jobs = s.jobs; ends = s.ends }) tt
  work-safe p call (Fitting bay) asked fit s h =
      none-safe (record (call_counted p call) { gone = Some (record { bay = bay; fitted = true }) }) job_ends.Fitted [] (record { jobs = s.jobs; ends = s.ends }) tt
  work-safe p call Over asked fit s h = absurd (cc)
