-- Along a history each recovery that has ended has named a unit lost exactly where its calls found the row torn with that unit
-- missing, and the note is of a write that put another unit of the row or was to put that one.
use Rattle.std.proofs.Common.{arith, ◌≡◌, ◌⊎◌, inl, inr, refl, subst, ℕ, ◌+◌, ◌-◌, ◌<◌, ◌==◌, ◌||◌, Bool, true, false, List, [], ◌∷◌, drop, Option, Some, None, Result, Ok, Err}
use Rattle.std.specs.List.{AllByRecursion}
use Rattle.raid_base.specs.declared.numbers.BayNo.{BayNo}
use Rattle.raid_base.specs.declared.numbers.HostNo.{HostNo}
use Rattle.raid_base.specs.declared.numbers.RowNo.{RowNo}
use Rattle.raid_base.specs.declared.numbers.Number.{Number}
use Rattle.raid_base.specs.declared.numbers.Spent.{Spent}
use Rattle.raid_base.specs.declared.cells.Content.{Content}
use Rattle.raid_base.specs.declared.messages.Call.{Call}
use Rattle.raid_base.specs.declared.messages.Note.{Note}
use Rattle.raid_base.specs.declared.jobs.Job.{Job}
use Rattle.raid_base.specs.declared.jobs.Task.{Task}
use Rattle.raid_base.specs.declared.jobs.Task.TheVariants as tasks
use Rattle.raid_base.specs.declared.jobs.RowPart.{RowPart}
use Rattle.raid_base.specs.declared.jobs.PartsFault.{PartsFault}
use Rattle.raid_base.specs.declared.jobs.PartsFault.TheVariants as faults
use Rattle.raid_base.specs.declared.jobs.Cause.{Cause}
use Rattle.raid_base.specs.declared.jobs.Cause.TheVariants as causes
use Rattle.raid_base.specs.declared.jobs.Ended.{Ended}
use Rattle.raid_base.specs.declared.jobs.Ended.TheVariants as ends
use Rattle.raid_base.specs.declared.jobs.JobEnd.{JobEnd}
use Rattle.raid_base.specs.declared.jobs.JobEnd.TheVariants as job_ends
use Rattle.raid_base.specs.Fits.{fits}
use Rattle.raid_base.specs.Numbers.{draw, sees}
use Rattle.raid_base.specs.Steps.{Steps, Asks, Draws, Ends, Standing, settled, told, errand_of}
use Rattle.attempts.specs.Taking.{Finish}
use Rattle.attempts.specs.Phases.{IsIn}
use Rattle.attempts.proofs.RoomLemmas.{all-append}
use Rattle.script_text.specs.Script.{Script, jobs_of, parts_of}
use Rattle.script_text.specs.Ranges.{IsScript, IsTask}
use Rattle.histories.specs.declared.operator.Gone.{Gone}
use Rattle.histories.specs.Operator.{is_gone}
use Rattle.histories.specs.Torn.{FoundTorn, NamesLost, IsLostRightly}
use Rattle.histories.specs.Hands.{HasWork, IsInHand}
use Rattle.histories.specs.Progress.{Ending, Work, Trying, Losing, Fitting, Over, Progress, endings_of, with_ending, next_job, attempt, try_with, one_more, parts_end, try_parts, lose_job, fit_job, rebuild_job, start_task, start_jobs, stops, go_on, job_ended, task_of, try_again, once_more, is_spent, attempt_refused, next_row, row_mended, attempt_ended, quit_end, asks_on, steps_left, work_told, call_counted, takes, work_errand}
use Rattle.histories.specs.History.{if_taken, progress_at, IsHistory, endings_at}
use Rattle.histories.proofs.bounds.BoundsTakes.{before_start}
use Rattle.histories.proofs.hands.Attempting.{hand-at, own-errand, reply-fits}
use Rattle.histories.proofs.hands.HandSteps.{GoesOn, jobs-bare, takes-after}
use Rattle.row_laws.specs.Hands.{calls_at}
use Rattle.row_laws.specs.Laws.{LostBlocksAreTorn}
use Rattle.row_laws.proofs.owners.RowOwnersHands.{happened-in}
use Rattle.row_laws.proofs.torn.TornTrees.{Telling, settled-telling, told-telling, led-telling, IsWithin, Named, EndsNamed, recoveries-tell}
use Rattle.row_laws.proofs.torn.TornNotes.{seized-within, torn-of-write}

-- how an attempt of a task ends by its calls
abbrev TaskEnds : ℕ → Task → List Call → Ended → Type 0
TaskEnds n (tasks.Recover row) = EndsNamed n row
TaskEnds n (tasks.Read object first count) = λ calls ended. Unit {0}
TaskEnds n (tasks.Write object first from count) = λ calls ended. Unit {0}
TaskEnds n (tasks.Rebuild bay) = λ calls ended. Unit {0}
TaskEnds n (tasks.Lose bay) = λ calls ended. Unit {0}
TaskEnds n (tasks.Fit bay) = λ calls ended. Unit {0}

any-telling : (calls : List Call) (s : Steps Finish) → Telling (λ cs ended. Unit {0}) calls s
any-telling calls (Ends f) = tt
any-telling calls (Draws k) = λ d. any-telling calls (k d)
any-telling calls (Asks e s c k) = (tt, λ call is fit. any-telling (call ∷ calls) (k call.answer.reply))

attempt-tells : (script : Script) (host : HostNo) (id : Number) (row : ℕ) (task : Task) → Telling (TaskEnds script.n task) [] (attempt script host id row task)
attempt-tells script host id row (tasks.Recover at) = recoveries-tell (record { n = script.n; host = host; id = id; row = at })
attempt-tells script host id row (tasks.Read object first count) = any-telling [] (attempt script host id row (tasks.Read object first count))
attempt-tells script host id row (tasks.Write object first from count) = any-telling [] (attempt script host id row (tasks.Write object first from count))
attempt-tells script host id row (tasks.Rebuild bay) = any-telling [] (attempt script host id row (tasks.Rebuild bay))
attempt-tells script host id row (tasks.Lose bay) = any-telling [] (attempt script host id row (tasks.Lose bay))
attempt-tells script host id row (tasks.Fit bay) = any-telling [] (attempt script host id row (tasks.Fit bay))

-- The calls of the attempt in hand are among those of the history
pub calls-among : (script : Script) → IsScript script → (host : HostNo) (history : List Call) → IsHistory script history → (c : Call) → IsIn c (calls_at script history host) → IsIn c history
calls-among script is host [] along c i =
    absurd (subst (λ (calls : List Call). IsIn c calls) (jobs-bare script host (jobs_of script host) (before_start script host) refl) i)
calls-among script is host (call ∷ earlier) along c i = by (calls-among script is host earlier along.0 c) (call.ask.host.0 == host.0) refl i
  where
    p : Progress
    p = progress_at script host earlier

    by : (IsIn c p.calls → IsIn c earlier) → (b : Bool) → (call.ask.host.0 == host.0) ≡ b → IsIn c (if_taken script host p call b).calls → IsIn c (call ∷ earlier)
    by among false e j = inr (among j)
    by among true e j = after (takes-after script host p call (errand_of call) (own-errand script earlier call along.1 host e) (hand-at script is host earlier along.0))
      where
        after : ((takes script host p call).calls ≡ []) ⊎ GoesOn p call (takes script host p call) → IsIn c (call ∷ earlier)
        after (inl bare) = absurd (subst (λ (calls : List Call). IsIn c calls) bare j)
        after (inr g) = grown (subst (λ (calls : List Call). IsIn c calls) g.calls j)
          where
            grown : (call ≡ c) ⊎ IsIn c p.calls → IsIn c (call ∷ earlier)
            grown (inl same) = inl same
            grown (inr k) = inr (among k)

-- Endings, with calls of which each is H
module _ (script : Script) (is : IsScript script) (host : HostNo) (H : Call → Type 0) where
  abbrev AllH : List Call → Type 0
  AllH calls = (c : Call) → IsIn c calls → H c

  -- what is known of a recovery that has ended
  record Known (row : RowNo) (lost : Option ℕ) (calls : List Call) : Type 0 where
    below : row.0 < script.rows
    all : AllH calls
    named : Named script.n row lost calls

  abbrev KnownOf : Task → Option ℕ → List Call → Type 0
  KnownOf (tasks.Recover row) lost calls = Known row lost calls
  KnownOf (tasks.Read object first count) lost calls = Unit {0}
  KnownOf (tasks.Write object first from count) lost calls = Unit {0}
  KnownOf (tasks.Rebuild bay) lost calls = Unit {0}
  KnownOf (tasks.Lose bay) lost calls = Unit {0}
  KnownOf (tasks.Fit bay) lost calls = Unit {0}

  abbrev Right : JobEnd → Task → List Call → Type 0
  Right (job_ends.Recovered n closed lost) task calls = KnownOf task lost calls
  Right _ task calls = Unit {0}

  abbrev RightEnding : Ending → Type 0
  RightEnding e = Right e.ended e.job.task e.calls

  abbrev Sound : Progress → Type 0
  Sound p = AllByRecursion RightEnding p.endings

  -- the job in hand may have this result
  abbrev Due : List Job → JobEnd → List Call → Type 0
  Due [] e calls = Unit {0}
  Due (job ∷ jobs) e calls = Right e job.task calls

  abbrev IsPlain : JobEnd → Type 0
  IsPlain e = (task : Task) (calls : List Call) → Right e task calls

  due-plain : (js : List Job) (e : JobEnd) (calls : List Call) → IsPlain e → Due js e calls
  due-plain [] e calls plain = tt
  due-plain (job ∷ jobs) e calls plain = plain job.task calls

  one-ended : (p : Progress) (e : JobEnd) (read : List Content) (js : List Job) → Due js e p.calls → AllByRecursion RightEnding (endings_of js e read p)
  one-ended p e read [] due = tt
  one-ended p e read (job ∷ jobs) due = (due, tt)

  next-sound : (p : Progress) (e : JobEnd) (read : List Content) → Sound p → Due p.jobs e p.calls → Sound (next_job (with_ending p e read))
  next-sound p e read s due = all-append RightEnding p.endings (endings_of p.jobs e read p) s (one-ended p e read p.jobs due)

  -- where it goes on
  abbrev Begins : (Progress → Progress) → Type 0
  Begins rest = (q : Progress) → Sound q → Sound (rest q)

  module _ (rest : Progress → Progress) (begins : Begins rest) where
    skips : (p : Progress) (e : JobEnd) → IsPlain e → Sound p → Sound (rest (next_job (with_ending p e [])))
    skips p e plain s = begins (next_job (with_ending p e [])) (next-sound p e [] s (due-plain p.jobs e p.calls plain))

    tries-sound : (task : Task) (p : Progress) (d : Result Number Spent) → Sound p → Sound (try_with script host task rest (one_more p) d)
    tries-sound task p (Ok id) s = s
    tries-sound task p (Err spent) s = skips (one_more p) (job_ends.Gave (p.tries + 1) (causes.Spent spent.seen)) (λ t calls. tt) s

    parts-plain : (fault : PartsFault) → IsPlain (parts_end fault)
    parts-plain faults.NoObject task calls = tt
    parts-plain (faults.PastEnd end) task calls = tt
    parts-plain (faults.TooManyRows rows) task calls = tt

    parts-sound : (task : Task) (p : Progress) (r : Result (List RowPart) PartsFault) → Sound p → Sound (try_parts script host task rest p r)
    parts-sound task p (Ok parts) s = tries-sound task p (draw host p.seen) s
    parts-sound task p (Err fault) s = skips p (parts_end fault) (parts-plain fault) s

    loses-sound : (p : Progress) (bay : BayNo) (gone : Option Gone) → Sound p → Sound (lose_job rest p bay gone)
    loses-sound p bay None s = s
    loses-sound p bay (Some gone) s = skips p (job_ends.StillMissing gone.bay) (λ t calls. tt) s

    fits-sound : (p : Progress) (bay : BayNo) (lost : Bool) → Sound p → Sound (fit_job rest p bay lost)
    fits-sound p bay true s = s
    fits-sound p bay false s = skips p (job_ends.NotLost bay) (λ t calls. tt) s

    rebuilds-sound : (p : Progress) (bay : BayNo) (fitted : Bool) → Sound p → Sound (rebuild_job script host rest p bay fitted)
    rebuilds-sound p bay true s = tries-sound (tasks.Rebuild bay) p (draw host p.seen) s
    rebuilds-sound p bay false s = skips p (job_ends.NotFitted bay) (λ t calls. tt) s

    starts-sound : (task : Task) (p : Progress) → Sound p → Sound (start_task script host rest p task)
    starts-sound (tasks.Read object first count) p s = parts-sound (tasks.Read object first count) p (parts_of script object first count) s
    starts-sound (tasks.Write object first from count) p s = parts-sound (tasks.Write object first from count) p (parts_of script object first count) s
    starts-sound (tasks.Recover row) p s = tries-sound (tasks.Recover row) p (draw host p.seen) s
    starts-sound (tasks.Lose bay) p s = loses-sound p bay p.gone s
    starts-sound (tasks.Fit bay) p s = fits-sound p bay (is_gone bay false p.gone) s
    starts-sound (tasks.Rebuild bay) p s = rebuilds-sound p bay (is_gone bay true p.gone) s

  jobs-sound : (jobs : List Job) → Begins (start_jobs script host jobs)
  jobs-sound [] p s = s
  jobs-sound (job ∷ jobs) p s = starts-sound (start_jobs script host jobs) (jobs-sound jobs) job.task p s

  on-sound : (q : Progress) (stopped : Bool) → Sound (next_job q) → Sound (go_on script host q stopped)
  on-sound q true s = s
  on-sound q false s = jobs-sound (drop 1 q.jobs) (next_job q) s

  ended-sound : (p : Progress) (e : JobEnd) (read : List Content) → Sound p → Due p.jobs e p.calls → Sound (job_ended script host p e read)
  ended-sound p e read s due = on-sound (with_ending p e read) (stops p) (next-sound p e read s due)

  ended-plain : (p : Progress) (e : JobEnd) (read : List Content) → Sound p → IsPlain e → Sound (job_ended script host p e read)
  ended-plain p e read s plain = ended-sound p e read s (due-plain p.jobs e p.calls plain)

  again-sound : (later : Progress) (o : Option Task) → Sound later → Sound (try_again script host later o)
  again-sound later None s = s
  again-sound later (Some task) s = tries-sound (start_jobs script host (drop 1 later.jobs)) (jobs-sound (drop 1 later.jobs)) task later (draw host later.seen) s

  more-sound : (p later : Progress) (stopped : Bool) → Sound p → Sound later → Sound (once_more script host p later stopped)
  more-sound p later true s t = ended-plain p (job_ends.Gave p.tries causes.Quit) [] s (λ task calls. tt)
  more-sound p later false s t = again-sound later (task_of p.jobs) t

  refused-sound : (p : Progress) (cause : Cause) (last : Bool) → Sound p → Sound (attempt_refused script host p cause last)
  refused-sound p cause true s = ended-plain p (job_ends.Gave p.tries cause) [] s (λ task calls. tt)
  refused-sound p cause false s = more-sound p p (stops p) s s

  mended-sound : (p : Progress) (last : Bool) → Sound p → Sound (row_mended script host p last)
  mended-sound p true s = ended-plain (record p { gone = None }) job_ends.Rebuilt [] s (λ task calls. tt)
  mended-sound p false s = more-sound p (next_row p) (stops p) s s

  -- An attempt of the job in hand
  module _ (p : Progress) (task : Task) (first : task_of p.jobs ≡ Some task) (may : IsTask script host task) (all : AllH p.calls) (s : Sound p) where
    known : (t : Task) → IsTask script host t → (n : Number) (closed : Bool) (lost : Option ℕ) → TaskEnds script.n t p.calls (ends.Recovered n closed lost) → KnownOf t lost p.calls
    known (tasks.Recover row) aim n closed lost h = record { below = aim; all = all; named = h }
    known (tasks.Read object begin count) aim n closed lost h = tt
    known (tasks.Write object begin from count) aim n closed lost h = tt
    known (tasks.Rebuild bay) aim n closed lost h = tt
    known (tasks.Lose bay) aim n closed lost h = tt
    known (tasks.Fit bay) aim n closed lost h = tt

    due-of : (n : Number) (closed : Bool) (lost : Option ℕ) (js : List Job) → task_of js ≡ Some task → KnownOf task lost p.calls → Due js (job_ends.Recovered n closed lost) p.calls
    due-of n closed lost [] is_first k = tt
    due-of n closed lost (job ∷ jobs) is_first k = let same : task ≡ job.task = cc in subst (λ (t : Task). KnownOf t lost p.calls) same k

    due-recovered : (n : Number) (closed : Bool) (lost : Option ℕ) → TaskEnds script.n task p.calls (ends.Recovered n closed lost) → Due p.jobs (job_ends.Recovered n closed lost) p.calls
    due-recovered n closed lost h = due-of n closed lost p.jobs first (known task may n closed lost h)

    attempt-sound : (read : List Content) (ended : Ended) → TaskEnds script.n task p.calls ended → Sound (attempt_ended script host p read ended)
    attempt-sound read (ends.Read n) h = ended-plain p (job_ends.Read n) read s (λ t calls. tt)
    attempt-sound read (ends.Wrote n) h = ended-plain p (job_ends.Wrote n) [] s (λ t calls. tt)
    attempt-sound read (ends.Part n made cause) h = ended-plain p (job_ends.Part n made cause) [] s (λ t calls. tt)
    attempt-sound read (ends.Recovered n closed lost) h = ended-sound p (job_ends.Recovered n closed lost) [] s (due-recovered n closed lost h)
    attempt-sound read (ends.Refused cause) h = refused-sound p cause ((p.tries == script.tries) || is_spent cause) s
    attempt-sound read ends.Mended h = mended-sound p (p.row + 1 == script.rows) s

    -- the host stops in it
    quit-due : (stop : Ended) → TaskEnds script.n task p.calls stop → Due p.jobs (quit_end p.tries stop) p.calls
    quit-due (ends.Read n) h = due-plain p.jobs (job_ends.Read n) p.calls (λ t calls. tt)
    quit-due (ends.Wrote n) h = due-plain p.jobs (job_ends.Wrote n) p.calls (λ t calls. tt)
    quit-due (ends.Part n made cause) h = due-plain p.jobs (job_ends.Part n made cause) p.calls (λ t calls. tt)
    quit-due (ends.Recovered n closed lost) h = due-recovered n closed lost h
    quit-due (ends.Refused cause) h = due-plain p.jobs (job_ends.Gave p.tries causes.Quit) p.calls (λ t calls. tt)
    quit-due ends.Mended h = due-plain p.jobs (job_ends.Gave p.tries causes.Quit) p.calls (λ t calls. tt)

    asks-sound : (steps : Steps Finish) (stop : Ended) → TaskEnds script.n task p.calls stop → (stopped : Bool) → Sound (asks_on p steps stop stopped)
    asks-sound steps stop h true = next-sound p (quit_end p.tries stop) [] s (quit-due stop h)
    asks-sound steps stop h false = s

    left-sound : (steps : Steps Finish) → Telling (TaskEnds script.n task) p.calls steps → Sound (steps_left script host p steps)
    left-sound (Asks e t c k) h = asks-sound (Asks e t c k) t h.0 (stops p)
    left-sound (Draws k) h = s
    left-sound (Ends finish) h = attempt-sound finish.contents finish.ended h

  -- Calls
  module _ (p : Progress) (call : Call) (fit : fits call.ask.what call.answer.reply ≡ true) (all : AllH (call ∷ p.calls)) (s : Sound p) where
    told-sound : (work : Work) → work_errand work ≡ Some (errand_of call) → HasWork script host p.jobs p.row p.seen p.calls work → Sound (work_told script host (call_counted p call) call.answer.reply work)
    told-sound (Trying steps) asked w =
        let now : Standing Finish = told host (record { seen = p.seen; steps = steps }) call.answer.reply in
        left-sound (record (call_counted p call) { seen = now.seen }) w.task w.first w.is all s now.steps
        (told-telling (TaskEnds script.n w.task) host (sees p.seen call.answer.reply) p.calls call steps
        (led-telling (TaskEnds script.n w.task) host (settled host w.id (attempt script host w.id p.row w.task)) p.calls (record { seen = p.seen; steps = steps })
        (settled-telling (TaskEnds script.n w.task) host w.id [] (attempt script host w.id p.row w.task) (attempt-tells script host w.id p.row w.task)) w.led) asked fit)
    told-sound (Losing bay) asked w = ended-plain (record (call_counted p call) { gone = Some (record { bay = bay; fitted = false }) }) job_ends.Lost [] s (λ t calls. tt)
    told-sound (Fitting bay) asked w = ended-plain (record (call_counted p call) { gone = Some (record { bay = bay; fitted = true }) }) job_ends.Fitted [] s (λ t calls. tt)
    told-sound Over asked w = absurd (cc)

    takes-sound : work_errand p.work ≡ Some (errand_of call) → IsInHand script host p → Sound (takes script host p call)
    takes-sound asked hand = told-sound p.work asked hand

  history-sound : (history : List Call) → IsHistory script history → AllH history → Sound (progress_at script host history)
  history-sound [] along all = jobs-sound (jobs_of script host) (before_start script host) tt
  history-sound (call ∷ earlier) along all = by (call.ask.host.0 == host.0) refl (history-sound earlier along.0 (λ c i. all c (inr i)))
    where
      p : Progress
      p = progress_at script host earlier

      grown : (c : Call) → IsIn c (call ∷ p.calls) → H c
      grown c (inl same) = all c (inl same)
      grown c (inr i) = all c (inr (calls-among script is host earlier along.0 c i))

      by : (b : Bool) → (call.ask.host.0 == host.0) ≡ b → Sound p → Sound (if_taken script host p call b)
      by true e s = takes-sound p call (reply-fits script earlier call along.1) grown s (own-errand script earlier call along.1 host e) (hand-at script is host earlier along.0)
      by false e s = s

-- An ending of which all calls are among those of the history
module _ (script : Script) (is : IsScript script) (history : List Call) (along : IsHistory script history) (host : HostNo) where
  abbrev Among : Call → Type 0
  Among c = IsIn c history

  names-lost : (row : RowNo) (e : Ending) (lost : Option ℕ) → Known script is host Among row lost e.calls → NamesLost script history row e lost
  names-lost row e lost k = record {
    named = λ unit named. (let low : unit < script.n - 1 = (k.named.torn unit named).0 in omega (arith, low));
    torn = λ unit below. (λ named. (k.named.torn unit named).1, λ found. k.named.names unit found.0 below (within found.0 unit found.1) found.1);
    write = λ unit note named found. torn-of-write script is row k.below history along e.calls k.all lost k.named unit note named found;
  }
    where
      within : (note : Note) (unit : ℕ) → FoundTorn script.n row e.calls unit note → IsWithin script.n note.mask
      within note unit f = let g = happened-in e.calls f.noted in seized-within script is row k.below history along note g.0 (k.all g.0 g.1) g.2.0 g.2.1

  lost-rightly : (e : Ending) (task : Task) (ended : JobEnd) → Right script is host Among ended task e.calls → IsLostRightly script history e task ended
  lost-rightly e (tasks.Read object first count) ended k = tt
  lost-rightly e (tasks.Write object first from count) ended k = tt
  lost-rightly e (tasks.Rebuild bay) ended k = tt
  lost-rightly e (tasks.Lose bay) ended k = tt
  lost-rightly e (tasks.Fit bay) ended k = tt
  lost-rightly e (tasks.Recover row) (job_ends.Recovered n closed lost) k = names-lost row e lost k
  lost-rightly e (tasks.Recover row) (job_ends.Read n) k = tt
  lost-rightly e (tasks.Recover row) (job_ends.Wrote n) k = tt
  lost-rightly e (tasks.Recover row) (job_ends.Part n made cause) k = tt
  lost-rightly e (tasks.Recover row) job_ends.Lost k = tt
  lost-rightly e (tasks.Recover row) job_ends.Fitted k = tt
  lost-rightly e (tasks.Recover row) job_ends.Rebuilt k = tt
  lost-rightly e (tasks.Recover row) (job_ends.Gave tries cause) k = tt
  lost-rightly e (tasks.Recover row) (job_ends.StillMissing bay) k = tt
  lost-rightly e (tasks.Recover row) (job_ends.NotLost bay) k = tt
  lost-rightly e (tasks.Recover row) (job_ends.NotFitted bay) k = tt
  lost-rightly e (tasks.Recover row) job_ends.NoObject k = tt
  lost-rightly e (tasks.Recover row) (job_ends.PastEnd blocks) k = tt
  lost-rightly e (tasks.Recover row) (job_ends.TooManyRows rows) k = tt

  all-rightly : (endings : List Ending) → AllByRecursion (RightEnding script is host Among) endings → AllByRecursion (λ (e : Ending). IsLostRightly script history e e.job.task e.ended) endings
  all-rightly [] all = tt
  all-rightly (e ∷ es) all = (lost-rightly e e.job.task e.ended all.0, all-rightly es all.1)

pub lost_blocks_are_torn : LostBlocksAreTorn
lost_blocks_are_torn script history is along host =
    all-rightly script is history along host (endings_at script history host) (history-sound script is host (λ c. IsIn c history) history along (λ c i. i))
