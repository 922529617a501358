-- The id of each attempt is above all that its host had seen before it, and with that above the numbers of the puts of its
-- host's earlier attempts.
use Rattle.std.proofs.Common.{◌≡◌, ◌⊎◌, inl, inr, refl, ℕ, ◌+◌, ◌<◌, ◌≤◌, ◌==◌, ◌||◌, Bool, true, false, List, [], ◌∷◌, drop, Option, Some, None, Result, Ok, Err, arith}
use Rattle.raid_base.specs.declared.numbers.BayNo.{BayNo}
use Rattle.raid_base.specs.declared.numbers.HostNo.{HostNo}
use Rattle.raid_base.specs.declared.numbers.Number.{Number}
use Rattle.raid_base.specs.declared.numbers.Spent.{Spent}
use Rattle.raid_base.specs.declared.cells.Content.{Content}
use Rattle.raid_base.specs.declared.messages.Call.{Call}
use Rattle.raid_base.specs.declared.jobs.Job.{Job}
use Rattle.raid_base.specs.declared.jobs.Task.{Task}
use Rattle.raid_base.specs.declared.jobs.Task.TheVariants as tasks
use Rattle.raid_base.specs.declared.jobs.RowPart.{RowPart}
use Rattle.raid_base.specs.declared.jobs.PartsFault.{PartsFault}
use Rattle.raid_base.specs.declared.jobs.Cause.{Cause}
use Rattle.raid_base.specs.declared.jobs.Cause.TheVariants as causes
use Rattle.raid_base.specs.declared.jobs.Ended.{Ended}
use Rattle.raid_base.specs.declared.jobs.Ended.TheVariants as ends
use Rattle.raid_base.specs.declared.jobs.JobEnd.{JobEnd}
use Rattle.raid_base.specs.declared.jobs.JobEnd.TheVariants as job_ends
use Rattle.raid_base.specs.Numbers.{draw, sees}
use Rattle.raid_base.specs.Steps.{Steps, Asks, Draws, Ends, Standing, behind, told}
use Rattle.attempts.specs.Taking.{Finish}
use Rattle.attempts.proofs.NumberingLemmas.{draws-above}
use Rattle.script_text.specs.Script.{Script, parts_of}
use Rattle.histories.specs.declared.operator.Gone.{Gone}
use Rattle.histories.specs.Operator.{is_gone}
use Rattle.histories.specs.Progress.{Work, Trying, Losing, Fitting, Over, Progress, with_ending, next_job, attempt, try_with, one_more, try_task, ends_as, parts_end, try_parts, lose_job, fit_job, rebuild_job, start_task, start_jobs, stops, go_on, job_ended, task_of, try_again, once_more, is_spent, attempt_refused, next_row, row_mended, attempt_ended, asks_on, steps_left, work_told, call_counted, takes}
use Rattle.histories.proofs.accesses.AccessTrees.{EachAsked, settled-asked, is_reading, attempt-asked}
use Rattle.histories.proofs.accesses.AccessHosts.{reply-covers, settled-covers}

-- an attempt in hand has an id above this floor
pub record Fresh (floor : ℕ) (steps : Steps Finish) : Type 0 where
  pub reading : Bool
  pub id : Number
  pub each : EachAsked reading id steps
  pub above : floor < id.0

abbrev pub NewWork : ℕ → Work → Type 0
NewWork floor (Trying steps) = Fresh floor steps
NewWork floor (Losing bay) = Unit {0}
NewWork floor (Fitting bay) = Unit {0}
NewWork floor Over = Unit {0}

-- the host has seen the floor, and what it has in hand is new
pub record New (floor : ℕ) (p : Progress) : Type 0 where
  pub high : floor ≤ p.seen.0
  pub work : NewWork floor p.work

module _ (script : Script) (host : HostNo) (few : host.0 < 16) (floor : ℕ) where
  abbrev Goes : (Progress → Progress) → Type 0
  Goes rest = (q : Progress) → floor ≤ q.seen.0 → New floor (rest q)

  stays : (p : Progress) (work : Work) → floor ≤ p.seen.0 → NewWork floor work → New floor (record p { work = work })
  stays p work f w = record { high = f; work = w }

  module _ (rest : Progress → Progress) (goes : Goes rest) where
    tries-with : (p : Progress) (task : Task) (d : Result Number Spent) → draw host p.seen ≡ d → floor ≤ p.seen.0 → New floor (try_with script host task rest (one_more p) d)
    tries-with p task (Ok id) e f =
        let drawn = draws-above host p.seen id few e in
        let above : p.seen.0 < id.0 = drawn.above in
        let steps : Steps Finish = attempt script host id p.row task in
        let more = settled-covers script host few id steps in
        record {
          high = omega (arith, f, above, more);
          work = record {
            reading = is_reading task;
            id = id;
            each = settled-asked (is_reading task) id host id steps (attempt-asked script host id p.row task);
            above = omega (arith, f, above);
          };
        }
    tries-with p task (Err spent) e f = goes (next_job (with_ending (one_more p) (job_ends.Gave (p.tries + 1) (causes.Spent spent.seen)) [])) f

    tries : (p : Progress) (task : Task) → floor ≤ p.seen.0 → New floor (try_task script host task rest p)
    tries p task f = tries-with p task (draw host p.seen) refl f

    skips : (p : Progress) (e : JobEnd) → floor ≤ p.seen.0 → New floor (ends_as rest p e)
    skips p e f = goes (next_job (with_ending p e [])) f

    parts-begin : (p : Progress) (task : Task) (r : Result (List RowPart) PartsFault) → floor ≤ p.seen.0 → New floor (try_parts script host task rest p r)
    parts-begin p task (Ok parts) f = tries p task f
    parts-begin p task (Err fault) f = skips p (parts_end fault) f

    loses : (p : Progress) (bay : BayNo) (gone : Option Gone) → floor ≤ p.seen.0 → New floor (lose_job rest p bay gone)
    loses p bay None f = stays p (Losing bay) f tt
    loses p bay (Some gone) f = skips p (job_ends.StillMissing gone.bay) f

    fits-one : (p : Progress) (bay : BayNo) (lost : Bool) → floor ≤ p.seen.0 → New floor (fit_job rest p bay lost)
    fits-one p bay true f = stays p (Fitting bay) f tt
    fits-one p bay false f = skips p (job_ends.NotLost bay) f

    rebuilds : (p : Progress) (bay : BayNo) (fitted : Bool) → floor ≤ p.seen.0 → New floor (rebuild_job script host rest p bay fitted)
    rebuilds p bay true f = tries p (tasks.Rebuild bay) f
    rebuilds p bay false f = skips p (job_ends.NotFitted bay) f

    starts : (p : Progress) (task : Task) → floor ≤ p.seen.0 → New floor (start_task script host rest p task)
    starts p (tasks.Read object first count) f = parts-begin p (tasks.Read object first count) (parts_of script object first count) f
    starts p (tasks.Write object first from count) f = parts-begin p (tasks.Write object first from count) (parts_of script object first count) f
    starts p (tasks.Recover row) f = tries p (tasks.Recover row) f
    starts p (tasks.Lose bay) f = loses p bay p.gone f
    starts p (tasks.Fit bay) f = fits-one p bay (is_gone bay false p.gone) f
    starts p (tasks.Rebuild bay) f = rebuilds p bay (is_gone bay true p.gone) f

  jobs-new : (jobs : List Job) → Goes (start_jobs script host jobs)
  jobs-new [] p f = stays p Over f tt
  jobs-new (job ∷ jobs) p f = starts (start_jobs script host jobs) (jobs-new jobs) p job.task f

  -- A job ends
  on-new : (q : Progress) (stopped : Bool) → floor ≤ q.seen.0 → New floor (go_on script host q stopped)
  on-new q true f = stays (next_job q) Over f tt
  on-new q false f = jobs-new (drop 1 q.jobs) (next_job q) f

  ended-new : (p : Progress) (e : JobEnd) (read : List Content) → floor ≤ p.seen.0 → New floor (job_ended script host p e read)
  ended-new p e read f = on-new (with_ending p e read) (stops p) f

  again-new : (p : Progress) (task : Option Task) → floor ≤ p.seen.0 → New floor (try_again script host p task)
  again-new p None f = stays p Over f tt
  again-new p (Some task) f = tries (start_jobs script host (drop 1 p.jobs)) (jobs-new (drop 1 p.jobs)) p task f

  more-new : (p later : Progress) → floor ≤ p.seen.0 → floor ≤ later.seen.0 → (stopped : Bool) → New floor (once_more script host p later stopped)
  more-new p later f g true = ended-new p (job_ends.Gave p.tries causes.Quit) [] f
  more-new p later f g false = again-new later (task_of p.jobs) g

  refused-new : (p : Progress) (cause : Cause) → floor ≤ p.seen.0 → (last : Bool) → New floor (attempt_refused script host p cause last)
  refused-new p cause f true = ended-new p (job_ends.Gave p.tries cause) [] f
  refused-new p cause f false = more-new p p f f (stops p)

  mended-new : (p : Progress) → floor ≤ p.seen.0 → (last : Bool) → New floor (row_mended script host p last)
  mended-new p f true = ended-new (record p { gone = None }) job_ends.Rebuilt [] f
  mended-new p f false = more-new p (next_row p) f f (stops p)

  attempt-new : (p : Progress) (read : List Content) (ended : Ended) → floor ≤ p.seen.0 → New floor (attempt_ended script host p read ended)
  attempt-new p read (ends.Read n) f = ended-new p (job_ends.Read n) read f
  attempt-new p read (ends.Wrote n) f = ended-new p (job_ends.Wrote n) [] f
  attempt-new p read (ends.Part n made cause) f = ended-new p (job_ends.Part n made cause) [] f
  attempt-new p read (ends.Recovered n closed lost) f = ended-new p (job_ends.Recovered n closed lost) [] f
  attempt-new p read (ends.Refused cause) f = refused-new p cause f ((p.tries == script.tries) || is_spent cause)
  attempt-new p read ends.Mended f = mended-new p f (p.row + 1 == script.rows)

  -- The attempt in hand goes on, or what is in hand is new
  pub record Next (calls : List Call) (q : Progress) : Type 0 where
    pub high : floor ≤ q.seen.0
    pub work : (q.calls ≡ calls) ⊎ NewWork floor q.work

  module _ (calls : List Call) where
    new-next : (q : Progress) → New floor q → Next calls q
    new-next q h = record { high = h.high; work = inr h.work }

    asks-next : (q : Progress) (steps : Steps Finish) (stop : Ended) → floor ≤ q.seen.0 → q.calls ≡ calls → (stopped : Bool) → Next calls (asks_on q steps stop stopped)
    asks-next q steps stop f same true = record { high = f; work = inr tt }
    asks-next q steps stop f same false = record { high = f; work = inl same }

    left-next : (q : Progress) (steps : Steps Finish) → floor ≤ q.seen.0 → q.calls ≡ calls → Next calls (steps_left script host q steps)
    left-next q (Asks e t c k) f same = asks-next q (Asks e t c k) t f same (stops q)
    left-next q (Draws k) f same = record { high = f; work = inr tt }
    left-next q (Ends finish) f same = new-next (attempt_ended script host q finish.contents finish.ended) (attempt-new q finish.contents finish.ended f)

  told-next : (p : Progress) (call : Call) (work : Work) → floor ≤ p.seen.0 → Next (call ∷ p.calls) (work_told script host (call_counted p call) call.answer.reply work)
  told-next p call (Trying steps) f =
      let r = call.answer.reply in
      let first = reply-covers p.seen r in
      let rest = settled-covers script host few (sees p.seen r) (behind steps r) in
      let now : Standing Finish = told host (record { seen = p.seen; steps = steps }) r in
      left-next (call ∷ p.calls) (record (call_counted p call) { seen = now.seen }) now.steps (omega (arith, f, first, rest)) refl
  told-next p call (Losing bay) f =
      new-next (call ∷ p.calls) (work_told script host (call_counted p call) call.answer.reply (Losing bay))
      (ended-new (record (call_counted p call) { gone = Some (record { bay = bay; fitted = false }) }) job_ends.Lost [] f)
  told-next p call (Fitting bay) f =
      new-next (call ∷ p.calls) (work_told script host (call_counted p call) call.answer.reply (Fitting bay))
      (ended-new (record (call_counted p call) { gone = Some (record { bay = bay; fitted = true }) }) job_ends.Fitted [] f)
  told-next p call Over f = record { high = f; work = inl refl }

  pub takes-next : (p : Progress) (call : Call) → floor ≤ p.seen.0 → Next (call ∷ p.calls) (takes script host p call)
  takes-next p call f = told-next p call p.work f
