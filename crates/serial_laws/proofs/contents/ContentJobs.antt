-- What is so of each job of a host is so of those that it has before it.
use Rattle.std.proofs.Common.{◌≡◌, subst, ◌+◌, ◌==◌, ◌||◌, Bool, true, false, List, [], ◌∷◌, drop, Option, Some, None, Result, Ok, Err}
use Rattle.std.specs.List.{AllByRecursion}
use Rattle.raid_base.specs.declared.numbers.BayNo.{BayNo}
use Rattle.raid_base.specs.declared.numbers.HostNo.{HostNo}
use Rattle.raid_base.specs.declared.numbers.Number.{Number}
use Rattle.raid_base.specs.declared.numbers.Spent.{Spent}
use Rattle.raid_base.specs.declared.cells.Content.{Content}
use Rattle.raid_base.specs.declared.messages.Call.{Call}
use Rattle.raid_base.specs.declared.jobs.Job.{Job}
use Rattle.raid_base.specs.declared.jobs.Task.{Task}
use Rattle.raid_base.specs.declared.jobs.Task.TheVariants as tasks
use Rattle.raid_base.specs.declared.jobs.RowPart.{RowPart}
use Rattle.raid_base.specs.declared.jobs.PartsFault.{PartsFault}
use Rattle.raid_base.specs.declared.jobs.Cause.{Cause}
use Rattle.raid_base.specs.declared.jobs.Cause.TheVariants as causes
use Rattle.raid_base.specs.declared.jobs.Ended.{Ended}
use Rattle.raid_base.specs.declared.jobs.Ended.TheVariants as ends
use Rattle.raid_base.specs.declared.jobs.JobEnd.{JobEnd}
use Rattle.raid_base.specs.declared.jobs.JobEnd.TheVariants as job_ends
use Rattle.raid_base.specs.Numbers.{draw}
use Rattle.raid_base.specs.Steps.{Steps, Asks, Draws, Ends, Standing, told}
use Rattle.attempts.specs.Taking.{Finish}
use Rattle.script_text.specs.Script.{Script, jobs_of, parts_of}
use Rattle.histories.specs.declared.operator.Gone.{Gone}
use Rattle.histories.specs.Operator.{is_gone}
use Rattle.histories.specs.Progress.{Work, Trying, Losing, Fitting, Over, Progress, with_ending, next_job, try_with, one_more, parts_end, try_parts, lose_job, fit_job, rebuild_job, start_task, start_jobs, stops, go_on, job_ended, task_of, try_again, once_more, is_spent, attempt_refused, next_row, row_mended, attempt_ended, asks_on, steps_left, work_told, call_counted}
use Rattle.histories.specs.History.{if_taken, progress_at}
use Rattle.histories.proofs.bounds.BoundsTakes.{before_start}

module _ (script : Script) (host : HostNo) (P : Job → Type 0) where
  abbrev Held : Progress → Type 0
  Held p = AllByRecursion P p.jobs

  abbrev Goes : (Progress → Progress) → Type 0
  Goes rest = (q : Progress) → Held q → Held (rest q)

  rest-held : (jobs : List Job) → AllByRecursion P jobs → AllByRecursion P (drop 1 jobs)
  rest-held [] h = tt
  rest-held (job ∷ jobs) h = h.1

  module _ (rest : Progress → Progress) (goes : Goes rest) where
    tries-held : (task : Task) (p : Progress) (d : Result Number Spent) → Held p → Held (try_with script host task rest (one_more p) d)
    tries-held task p (Ok id) h = h
    tries-held task p (Err spent) h = goes (next_job (with_ending (one_more p) (job_ends.Gave (p.tries + 1) (causes.Spent spent.seen)) [])) (rest-held p.jobs h)

    parts-held : (task : Task) (p : Progress) (r : Result (List RowPart) PartsFault) → Held p → Held (try_parts script host task rest p r)
    parts-held task p (Ok parts) h = tries-held task p (draw host p.seen) h
    parts-held task p (Err fault) h = goes (next_job (with_ending p (parts_end fault) [])) (rest-held p.jobs h)

    loses-held : (p : Progress) (bay : BayNo) (gone : Option Gone) → Held p → Held (lose_job rest p bay gone)
    loses-held p bay None h = h
    loses-held p bay (Some gone) h = goes (next_job (with_ending p (job_ends.StillMissing gone.bay) [])) (rest-held p.jobs h)

    fits-held : (p : Progress) (bay : BayNo) (lost : Bool) → Held p → Held (fit_job rest p bay lost)
    fits-held p bay true h = h
    fits-held p bay false h = goes (next_job (with_ending p (job_ends.NotLost bay) [])) (rest-held p.jobs h)

    rebuilds-held : (p : Progress) (bay : BayNo) (fitted : Bool) → Held p → Held (rebuild_job script host rest p bay fitted)
    rebuilds-held p bay true h = tries-held (tasks.Rebuild bay) p (draw host p.seen) h
    rebuilds-held p bay false h = goes (next_job (with_ending p (job_ends.NotFitted bay) [])) (rest-held p.jobs h)

    starts-held : (task : Task) (p : Progress) → Held p → Held (start_task script host rest p task)
    starts-held (tasks.Read object first count) p h = parts-held (tasks.Read object first count) p (parts_of script object first count) h
    starts-held (tasks.Write object first from count) p h = parts-held (tasks.Write object first from count) p (parts_of script object first count) h
    starts-held (tasks.Recover row) p h = tries-held (tasks.Recover row) p (draw host p.seen) h
    starts-held (tasks.Lose bay) p h = loses-held p bay p.gone h
    starts-held (tasks.Fit bay) p h = fits-held p bay (is_gone bay false p.gone) h
    starts-held (tasks.Rebuild bay) p h = rebuilds-held p bay (is_gone bay true p.gone) h

  jobs-go : (jobs : List Job) → Goes (start_jobs script host jobs)
  jobs-go [] p h = h
  jobs-go (job ∷ jobs) p h = starts-held (start_jobs script host jobs) (jobs-go jobs) job.task p h

  on-held : (q : Progress) (stopped : Bool) → Held q → Held (go_on script host q stopped)
  on-held q true h = rest-held q.jobs h
  on-held q false h = jobs-go (drop 1 q.jobs) (next_job q) (rest-held q.jobs h)

  ended-held : (p : Progress) (e : JobEnd) (read : List Content) → Held p → Held (job_ended script host p e read)
  ended-held p e read h = on-held (with_ending p e read) (stops p) h

  again-held : (later : Progress) (o : Option Task) → Held later → Held (try_again script host later o)
  again-held later None h = h
  again-held later (Some task) h = tries-held (start_jobs script host (drop 1 later.jobs)) (jobs-go (drop 1 later.jobs)) task later (draw host later.seen) h

  more-held : (p later : Progress) (stopped : Bool) → Held p → Held later → Held (once_more script host p later stopped)
  more-held p later true h k = ended-held p (job_ends.Gave p.tries causes.Quit) [] h
  more-held p later false h k = again-held later (task_of p.jobs) k

  refused-held : (p : Progress) (cause : Cause) (last : Bool) → Held p → Held (attempt_refused script host p cause last)
  refused-held p cause true h = ended-held p (job_ends.Gave p.tries cause) [] h
  refused-held p cause false h = more-held p p (stops p) h h

  mended-held : (p : Progress) (last : Bool) → Held p → Held (row_mended script host p last)
  mended-held p true h = ended-held (record p { gone = None }) job_ends.Rebuilt [] h
  mended-held p false h = more-held p (next_row p) (stops p) h h

  attempt-held : (p : Progress) (read : List Content) (ended : Ended) → Held p → Held (attempt_ended script host p read ended)
  attempt-held p read (ends.Read n) h = ended-held p (job_ends.Read n) read h
  attempt-held p read (ends.Wrote n) h = ended-held p (job_ends.Wrote n) [] h
  attempt-held p read (ends.Part n made cause) h = ended-held p (job_ends.Part n made cause) [] h
  attempt-held p read (ends.Recovered n closed lost) h = ended-held p (job_ends.Recovered n closed lost) [] h
  attempt-held p read (ends.Refused cause) h = refused-held p cause ((p.tries == script.tries) || is_spent cause) h
  attempt-held p read ends.Mended h = mended-held p (p.row + 1 == script.rows) h

  asks-held : (p : Progress) (steps : Steps Finish) (stop : Ended) (stopped : Bool) → Held p → Held (asks_on p steps stop stopped)
  asks-held p steps stop true h = rest-held p.jobs h
  asks-held p steps stop false h = h

  left-held : (p : Progress) (steps : Steps Finish) → Held p → Held (steps_left script host p steps)
  left-held p (Asks e t c k) h = asks-held p (Asks e t c k) t (stops p) h
  left-held p (Draws k) h = h
  left-held p (Ends finish) h = attempt-held p finish.contents finish.ended h

  told-held : (p : Progress) (call : Call) (work : Work) → Held p → Held (work_told script host (call_counted p call) call.answer.reply work)
  told-held p call (Trying steps) h =
      let now : Standing Finish = told host (record { seen = p.seen; steps = steps }) call.answer.reply in
      left-held (record (call_counted p call) { seen = now.seen }) now.steps h
  told-held p call (Losing bay) h = ended-held (record (call_counted p call) { gone = Some (record { bay = bay; fitted = false }) }) job_ends.Lost [] h
  told-held p call (Fitting bay) h = ended-held (record (call_counted p call) { gone = Some (record { bay = bay; fitted = true }) }) job_ends.Fitted [] h
  told-held p call Over h = h

  taken-held : (p : Progress) (call : Call) (own : Bool) → Held p → Held (if_taken script host p call own)
  taken-held p call true h = told-held p call p.work h
  taken-held p call false h = h

  -- the jobs after any calls
  pub held-jobs : AllByRecursion P (jobs_of script host) → (history : List Call) → AllByRecursion P (progress_at script host history).jobs
  held-jobs all [] = jobs-go (jobs_of script host) (before_start script host) all
  held-jobs all (call ∷ earlier) = taken-held (progress_at script host earlier) call (call.ask.host.0 == host.0) (held-jobs all earlier)

  pub held-task : (Q : Task → Type 0) → ((job : Job) → P job → Q job.task) → (jobs : List Job) → AllByRecursion P jobs → (task : Task) → task_of jobs ≡ Some task → Q task
  held-task Q so [] all task first = absurd (cc)
  held-task Q so (job ∷ jobs) all task first = let same : job.task ≡ task = cc in subst Q same (so job all.0)
