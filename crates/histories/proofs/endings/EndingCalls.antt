-- What holds of a task and the calls of its attempt, from the first call on, holds of each job that has ended, with its last calls.
use Rattle.std.proofs.Common.{◌+◌, ◌==◌, ◌||◌, Bool, true, false, List, [], ◌∷◌, drop, Option, Some, None, Result, Ok, Err}
use Rattle.std.specs.List.{AllByRecursion}
use Rattle.raid_base.specs.declared.numbers.BayNo.{BayNo}
use Rattle.raid_base.specs.declared.numbers.HostNo.{HostNo}
use Rattle.raid_base.specs.declared.numbers.Number.{Number}
use Rattle.raid_base.specs.declared.numbers.Spent.{Spent}
use Rattle.raid_base.specs.declared.cells.Content.{Content}
use Rattle.raid_base.specs.declared.messages.Call.{Call}
use Rattle.raid_base.specs.declared.messages.Reply.{Reply}
use Rattle.raid_base.specs.declared.jobs.Job.{Job}
use Rattle.raid_base.specs.declared.jobs.Task.{Task}
use Rattle.raid_base.specs.declared.jobs.Task.TheVariants as tasks
use Rattle.raid_base.specs.declared.jobs.RowPart.{RowPart}
use Rattle.raid_base.specs.declared.jobs.PartsFault.{PartsFault}
use Rattle.raid_base.specs.declared.jobs.Cause.{Cause}
use Rattle.raid_base.specs.declared.jobs.Cause.TheVariants as causes
use Rattle.raid_base.specs.declared.jobs.Ended.{Ended}
use Rattle.raid_base.specs.declared.jobs.Ended.TheVariants as ends
use Rattle.raid_base.specs.declared.jobs.JobEnd.{JobEnd}
use Rattle.raid_base.specs.declared.jobs.JobEnd.TheVariants as job_ends
use Rattle.raid_base.specs.Numbers.{draw}
use Rattle.raid_base.specs.Steps.{Steps, Asks, Draws, Ends, Standing, told}
use Rattle.attempts.specs.Taking.{Finish}
use Rattle.attempts.proofs.RoomLemmas.{all-append}
use Rattle.script_text.specs.Script.{Script, jobs_of, parts_of}
use Rattle.histories.specs.declared.operator.Gone.{Gone}
use Rattle.histories.specs.Operator.{is_gone}
use Rattle.histories.specs.Progress.{Ending, Work, Trying, Losing, Fitting, Over, Progress, endings_of, with_ending, next_job, try_with, one_more, parts_end, try_parts, lose_job, fit_job, rebuild_job, start_task, start_jobs, at_start, stops, go_on, job_ended, task_of, try_again, once_more, is_spent, attempt_refused, next_row, row_mended, attempt_ended, quit_end, asks_on, steps_left, work_told, call_counted, takes}
use Rattle.histories.proofs.bounds.BoundsTakes.{before_start}

module _ (script : Script) (host : HostNo) (D : Task → List Call → Type 0) (bare : (task : Task) → D task []) where
  abbrev pub IsKept : Ending → Type 0
  IsKept e = D e.job.task e.calls

  -- of the job in hand, with these calls
  abbrev pub OfFirst : List Job → List Call → Type 0
  OfFirst [] calls = Unit {0}
  OfFirst (job ∷ jobs) calls = D job.task calls

  pub record Kept (p : Progress) : Type 0 where
    pub before : AllByRecursion IsKept p.endings
    pub now : OfFirst p.jobs p.calls

  first-bare : (js : List Job) → OfFirst js []
  first-bare [] = tt
  first-bare (job ∷ jobs) = bare job.task

  one-ended : (p : Progress) (e : JobEnd) (read : List Content) (js : List Job) → OfFirst js p.calls → AllByRecursion IsKept (endings_of js e read p)
  one-ended p e read [] now = tt
  one-ended p e read (job ∷ jobs) now = (now, tt)

  next-kept : (p : Progress) (e : JobEnd) (read : List Content) → Kept p → Kept (next_job (with_ending p e read))
  next-kept p e read k = record { before = all-append IsKept p.endings (endings_of p.jobs e read p) k.before (one-ended p e read p.jobs k.now); now = first-bare (drop 1 p.jobs) }

  more-kept : (p : Progress) → Kept p → Kept (one_more p)
  more-kept p k = record { before = k.before; now = first-bare p.jobs }

  -- where it goes on
  abbrev Begins : (Progress → Progress) → Type 0
  Begins rest = (q : Progress) → Kept q → Kept (rest q)

  module _ (rest : Progress → Progress) (begins : Begins rest) where
    skips : (p : Progress) (e : JobEnd) → Kept p → Kept (rest (next_job (with_ending p e [])))
    skips p e k = begins (next_job (with_ending p e [])) (next-kept p e [] k)

    tries-kept : (task : Task) (p : Progress) (d : Result Number Spent) → Kept p → Kept (try_with script host task rest (one_more p) d)
    tries-kept task p (Ok id) k = record { before = k.before; now = first-bare p.jobs }
    tries-kept task p (Err spent) k = skips (one_more p) (job_ends.Gave (p.tries + 1) (causes.Spent spent.seen)) (more-kept p k)

    parts-kept : (task : Task) (p : Progress) (r : Result (List RowPart) PartsFault) → Kept p → Kept (try_parts script host task rest p r)
    parts-kept task p (Ok parts) k = tries-kept task p (draw host p.seen) k
    parts-kept task p (Err fault) k = skips p (parts_end fault) k

    loses-kept : (p : Progress) (bay : BayNo) (gone : Option Gone) → Kept p → Kept (lose_job rest p bay gone)
    loses-kept p bay None k = record { before = k.before; now = k.now }
    loses-kept p bay (Some gone) k = skips p (job_ends.StillMissing gone.bay) k

    fits-kept : (p : Progress) (bay : BayNo) (lost : Bool) → Kept p → Kept (fit_job rest p bay lost)
    fits-kept p bay true k = record { before = k.before; now = k.now }
    fits-kept p bay false k = skips p (job_ends.NotLost bay) k

    rebuilds-kept : (p : Progress) (bay : BayNo) (fitted : Bool) → Kept p → Kept (rebuild_job script host rest p bay fitted)
    rebuilds-kept p bay true k = tries-kept (tasks.Rebuild bay) p (draw host p.seen) k
    rebuilds-kept p bay false k = skips p (job_ends.NotFitted bay) k

    starts-kept : (task : Task) (p : Progress) → Kept p → Kept (start_task script host rest p task)
    starts-kept (tasks.Read object first count) p k = parts-kept (tasks.Read object first count) p (parts_of script object first count) k
    starts-kept (tasks.Write object first from count) p k = parts-kept (tasks.Write object first from count) p (parts_of script object first count) k
    starts-kept (tasks.Recover row) p k = tries-kept (tasks.Recover row) p (draw host p.seen) k
    starts-kept (tasks.Lose bay) p k = loses-kept p bay p.gone k
    starts-kept (tasks.Fit bay) p k = fits-kept p bay (is_gone bay false p.gone) k
    starts-kept (tasks.Rebuild bay) p k = rebuilds-kept p bay (is_gone bay true p.gone) k

  jobs-kept : (jobs : List Job) → Begins (start_jobs script host jobs)
  jobs-kept [] p k = record { before = k.before; now = k.now }
  jobs-kept (job ∷ jobs) p k = starts-kept (start_jobs script host jobs) (jobs-kept jobs) job.task p k

  on-kept : (q : Progress) (stopped : Bool) → Kept (next_job q) → Kept (go_on script host q stopped)
  on-kept q true k = record { before = k.before; now = k.now }
  on-kept q false k = jobs-kept (drop 1 q.jobs) (next_job q) k

  ended-kept : (p : Progress) (e : JobEnd) (read : List Content) → Kept p → Kept (job_ended script host p e read)
  ended-kept p e read k = on-kept (with_ending p e read) (stops p) (next-kept p e read k)

  again-kept : (later : Progress) (o : Option Task) → Kept later → Kept (try_again script host later o)
  again-kept later None k = record { before = k.before; now = k.now }
  again-kept later (Some task) k = tries-kept (start_jobs script host (drop 1 later.jobs)) (jobs-kept (drop 1 later.jobs)) task later (draw host later.seen) k

  once-kept : (p later : Progress) (stopped : Bool) → Kept p → Kept later → Kept (once_more script host p later stopped)
  once-kept p later true k l = ended-kept p (job_ends.Gave p.tries causes.Quit) [] k
  once-kept p later false k l = again-kept later (task_of p.jobs) l

  refused-kept : (p : Progress) (cause : Cause) (last : Bool) → Kept p → Kept (attempt_refused script host p cause last)
  refused-kept p cause true k = ended-kept p (job_ends.Gave p.tries cause) [] k
  refused-kept p cause false k = once-kept p p (stops p) k k

  mended-kept : (p : Progress) (last : Bool) → Kept p → Kept (row_mended script host p last)
  mended-kept p true k = ended-kept (record p { gone = None }) job_ends.Rebuilt [] (record { before = k.before; now = k.now })
  mended-kept p false k = once-kept p (next_row p) (stops p) k (record { before = k.before; now = k.now })

  attempt-kept : (p : Progress) (read : List Content) (ended : Ended) → Kept p → Kept (attempt_ended script host p read ended)
  attempt-kept p read (ends.Read n) k = ended-kept p (job_ends.Read n) read k
  attempt-kept p read (ends.Wrote n) k = ended-kept p (job_ends.Wrote n) [] k
  attempt-kept p read (ends.Part n made cause) k = ended-kept p (job_ends.Part n made cause) [] k
  attempt-kept p read (ends.Recovered n closed lost) k = ended-kept p (job_ends.Recovered n closed lost) [] k
  attempt-kept p read (ends.Refused cause) k = refused-kept p cause ((p.tries == script.tries) || is_spent cause) k
  attempt-kept p read ends.Mended k = mended-kept p (p.row + 1 == script.rows) k

  asks-kept : (p : Progress) (steps : Steps Finish) (stop : Ended) (stopped : Bool) → Kept p → Kept (asks_on p steps stop stopped)
  asks-kept p steps stop true k = let n = next-kept p (quit_end p.tries stop) [] k in record { before = n.before; now = n.now }
  asks-kept p steps stop false k = record { before = k.before; now = k.now }

  left-kept : (p : Progress) (steps : Steps Finish) → Kept p → Kept (steps_left script host p steps)
  left-kept p (Asks e t c go) k = asks-kept p (Asks e t c go) t (stops p) k
  left-kept p (Draws go) k = record { before = k.before; now = k.now }
  left-kept p (Ends finish) k = attempt-kept p finish.contents finish.ended k

  told-kept : (p : Progress) (reply : Reply) (work : Work) → Kept p → Kept (work_told script host p reply work)
  told-kept p reply (Trying steps) k =
      let now : Standing Finish = told host (record { seen = p.seen; steps = steps }) reply in
      left-kept (record p { seen = now.seen }) now.steps (record { before = k.before; now = k.now })
  told-kept p reply (Losing bay) k = ended-kept (record p { gone = Some (record { bay = bay; fitted = false }) }) job_ends.Lost [] (record { before = k.before; now = k.now })
  told-kept p reply (Fitting bay) k = ended-kept (record p { gone = Some (record { bay = bay; fitted = true }) }) job_ends.Fitted [] (record { before = k.before; now = k.now })
  told-kept p reply Over k = k

  -- a call, if it holds of the job in hand with that call
  pub takes-kept : (p : Progress) (call : Call) → Kept p → OfFirst p.jobs (call ∷ p.calls) → Kept (takes script host p call)
  takes-kept p call k now = told-kept (call_counted p call) call.answer.reply p.work (record { before = k.before; now = now })

  pub starts-bare : Kept (at_start script host)
  starts-bare = jobs-kept (jobs_of script host) (before_start script host) (record { before = tt; now = first-bare (jobs_of script host) })
