-- What a call does to the calls of the attempt in hand: it is added to them, or they are over.
use Rattle.std.proofs.Common.{◌≡◌, ◌⊎◌, inl, inr, refl, ◌+◌, ◌==◌, ◌||◌, Bool, true, false, List, [], ◌∷◌, drop, Option, Some, None, Result, Ok, Err}
use Rattle.raid_base.specs.declared.numbers.BayNo.{BayNo}
use Rattle.raid_base.specs.declared.numbers.HostNo.{HostNo}
use Rattle.raid_base.specs.declared.numbers.Number.{Number}
use Rattle.raid_base.specs.declared.numbers.Spent.{Spent}
use Rattle.raid_base.specs.declared.cells.Content.{Content}
use Rattle.raid_base.specs.declared.messages.Call.{Call}
use Rattle.raid_base.specs.declared.messages.Errand.{Errand}
use Rattle.raid_base.specs.declared.jobs.Job.{Job}
use Rattle.raid_base.specs.declared.jobs.Task.{Task}
use Rattle.raid_base.specs.declared.jobs.Task.TheVariants as tasks
use Rattle.raid_base.specs.declared.jobs.RowPart.{RowPart}
use Rattle.raid_base.specs.declared.jobs.PartsFault.{PartsFault}
use Rattle.raid_base.specs.declared.jobs.Cause.{Cause}
use Rattle.raid_base.specs.declared.jobs.Cause.TheVariants as causes
use Rattle.raid_base.specs.declared.jobs.Ended.{Ended}
use Rattle.raid_base.specs.declared.jobs.Ended.TheVariants as ends
use Rattle.raid_base.specs.declared.jobs.JobEnd.{JobEnd}
use Rattle.raid_base.specs.declared.jobs.JobEnd.TheVariants as job_ends
use Rattle.raid_base.specs.Numbers.{draw}
use Rattle.raid_base.specs.Steps.{Steps, Asks, Draws, Ends, Standing, told}
use Rattle.attempts.specs.Taking.{Finish}
use Rattle.script_text.specs.Script.{Script, parts_of}
use Rattle.histories.specs.declared.operator.Gone.{Gone}
use Rattle.histories.specs.Operator.{is_gone}
use Rattle.histories.specs.Hands.{HasWork, IsInHand}
use Rattle.histories.specs.Progress.{Work, Trying, Losing, Fitting, Over, Progress, with_ending, next_job, try_with, one_more, parts_end, try_parts, lose_job, fit_job, rebuild_job, start_task, start_jobs, stops, go_on, job_ended, task_of, try_again, once_more, is_spent, attempt_refused, next_row, row_mended, attempt_ended, asks_on, steps_left, work_told, call_counted, takes, work_errand}

-- the same attempt, with one call more
pub record GoesOn (p : Progress) (call : Call) (later : Progress) : Type 0 where
  pub calls : later.calls ≡ call ∷ p.calls
  pub jobs : later.jobs ≡ p.jobs
  pub row : later.row ≡ p.row
  pub steps : Steps Finish
  pub work : p.work ≡ Trying steps

abbrev Bare : Progress → Type 0
Bare p = p.calls ≡ []

module _ (script : Script) (host : HostNo) where
  abbrev Begins : (Progress → Progress) → Type 0
  Begins rest = (q : Progress) → Bare q → Bare (rest q)

  module _ (rest : Progress → Progress) (begins : Begins rest) where
    tries-bare : (task : Task) (p : Progress) (d : Result Number Spent) → Bare (try_with script host task rest (one_more p) d)
    tries-bare task p (Ok id) = refl
    tries-bare task p (Err spent) = begins (next_job (with_ending (one_more p) (job_ends.Gave (p.tries + 1) (causes.Spent spent.seen)) [])) refl

    parts-bare : (task : Task) (p : Progress) (r : Result (List RowPart) PartsFault) → Bare (try_parts script host task rest p r)
    parts-bare task p (Ok parts) = tries-bare task p (draw host p.seen)
    parts-bare task p (Err fault) = begins (next_job (with_ending p (parts_end fault) [])) refl

    loses-bare : (p : Progress) (bay : BayNo) (gone : Option Gone) → Bare p → Bare (lose_job rest p bay gone)
    loses-bare p bay None b = b
    loses-bare p bay (Some gone) b = begins (next_job (with_ending p (job_ends.StillMissing gone.bay) [])) refl

    fits-bare : (p : Progress) (bay : BayNo) (lost : Bool) → Bare p → Bare (fit_job rest p bay lost)
    fits-bare p bay true b = b
    fits-bare p bay false b = begins (next_job (with_ending p (job_ends.NotLost bay) [])) refl

    rebuilds-bare : (p : Progress) (bay : BayNo) (fitted : Bool) → Bare (rebuild_job script host rest p bay fitted)
    rebuilds-bare p bay true = tries-bare (tasks.Rebuild bay) p (draw host p.seen)
    rebuilds-bare p bay false = begins (next_job (with_ending p (job_ends.NotFitted bay) [])) refl

    starts-bare : (task : Task) (p : Progress) → Bare p → Bare (start_task script host rest p task)
    starts-bare (tasks.Read object first count) p b = parts-bare (tasks.Read object first count) p (parts_of script object first count)
    starts-bare (tasks.Write object first from count) p b = parts-bare (tasks.Write object first from count) p (parts_of script object first count)
    starts-bare (tasks.Recover row) p b = tries-bare (tasks.Recover row) p (draw host p.seen)
    starts-bare (tasks.Lose bay) p b = loses-bare p bay p.gone b
    starts-bare (tasks.Fit bay) p b = fits-bare p bay (is_gone bay false p.gone) b
    starts-bare (tasks.Rebuild bay) p b = rebuilds-bare p bay (is_gone bay true p.gone)

  pub jobs-bare : (jobs : List Job) → Begins (start_jobs script host jobs)
  jobs-bare [] p b = b
  jobs-bare (job ∷ jobs) p b = starts-bare (start_jobs script host jobs) (jobs-bare jobs) job.task p b

  on-bare : (q : Progress) (stopped : Bool) → Bare (go_on script host q stopped)
  on-bare q true = refl
  on-bare q false = jobs-bare (drop 1 q.jobs) (next_job q) refl

  ended-bare : (p : Progress) (e : JobEnd) (read : List Content) → Bare (job_ended script host p e read)
  ended-bare p e read = on-bare (with_ending p e read) (stops p)

  again-bare : (later : Progress) (task : Task) (o : Option Task) → o ≡ Some task → Bare (try_again script host later o)
  again-bare later task None e = absurd (cc)
  again-bare later task (Some found) e = tries-bare (start_jobs script host (drop 1 later.jobs)) (jobs-bare (drop 1 later.jobs)) found later (draw host later.seen)

  -- an attempt ends
  module _ (p : Progress) (task : Task) (first : task_of p.jobs ≡ Some task) where
    more-bare : (later : Progress) (stopped : Bool) → Bare (once_more script host p later stopped)
    more-bare later true = ended-bare p (job_ends.Gave p.tries causes.Quit) []
    more-bare later false = again-bare later task (task_of p.jobs) first

    refused-bare : (cause : Cause) (last : Bool) → Bare (attempt_refused script host p cause last)
    refused-bare cause true = ended-bare p (job_ends.Gave p.tries cause) []
    refused-bare cause false = more-bare p (stops p)

    mended-bare : (last : Bool) → Bare (row_mended script host p last)
    mended-bare true = ended-bare (record p { gone = None }) job_ends.Rebuilt []
    mended-bare false = more-bare (next_row p) (stops p)

    attempt-bare : (read : List Content) (ended : Ended) → Bare (attempt_ended script host p read ended)
    attempt-bare read (ends.Read n) = ended-bare p (job_ends.Read n) read
    attempt-bare read (ends.Wrote n) = ended-bare p (job_ends.Wrote n) []
    attempt-bare read (ends.Part n made cause) = ended-bare p (job_ends.Part n made cause) []
    attempt-bare read (ends.Recovered n closed lost) = ended-bare p (job_ends.Recovered n closed lost) []
    attempt-bare read (ends.Refused cause) = refused-bare cause ((p.tries == script.tries) || is_spent cause)
    attempt-bare read ends.Mended = mended-bare (p.row + 1 == script.rows)

  module _ (p : Progress) (call : Call) where
    abbrev pub After : Progress → Type 0
    After later = Bare later ⊎ GoesOn p call later

    asks-after : (q : Progress) (steps : Steps Finish) (stop : Ended) → GoesOn p call q → (stopped : Bool) → After (asks_on q steps stop stopped)
    asks-after q steps stop g true = inl refl
    asks-after q steps stop g false = inr (record { calls = g.calls; jobs = g.jobs; row = g.row; steps = g.steps; work = g.work })

    left-after : (q : Progress) (task : Task) → task_of q.jobs ≡ Some task → GoesOn p call q → (steps : Steps Finish) → After (steps_left script host q steps)
    left-after q task first g (Asks e t c k) = asks-after q (Asks e t c k) t g (stops q)
    left-after q task first g (Draws k) = inr (record { calls = g.calls; jobs = g.jobs; row = g.row; steps = g.steps; work = g.work })
    left-after q task first g (Ends finish) = inl (attempt-bare q task first finish.contents finish.ended)

    told-after : (work : Work) (e : Errand) → p.work ≡ work → work_errand work ≡ Some e → HasWork script host p.jobs p.row p.seen p.calls work →
        After (work_told script host (call_counted p call) call.answer.reply work)
    told-after (Trying steps) e was asked w =
        let now : Standing Finish = told host (record { seen = p.seen; steps = steps }) call.answer.reply in
        left-after (record (call_counted p call) { seen = now.seen }) w.task w.first (record { calls = refl; jobs = refl; row = refl; steps = steps; work = was }) now.steps
    told-after (Losing bay) e was asked w = inl (ended-bare (record (call_counted p call) { gone = Some (record { bay = bay; fitted = false }) }) job_ends.Lost [])
    told-after (Fitting bay) e was asked w = inl (ended-bare (record (call_counted p call) { gone = Some (record { bay = bay; fitted = true }) }) job_ends.Fitted [])
    told-after Over e was asked w = absurd (cc)

    -- the call that was taken
    pub takes-after : (e : Errand) → work_errand p.work ≡ Some e → IsInHand script host p → After (takes script host p call)
    takes-after e asked w = told-after p.work e refl asked w
