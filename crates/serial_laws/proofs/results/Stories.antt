-- How the results with numbers came about: the last attempt of each, with its calls, which are among those of the history.
use Rattle.std.proofs.Common.{◌≡◌, refl, sym, ap, subst, ℕ, ◌+◌, ◌==◌, ◌||◌, Bool, true, false, IsSome, List, [], ◌∷◌, drop, Option, Some, None, Result, Ok, Err, inl, inr}
use Rattle.std.specs.List.{AllByRecursion}
use Rattle.raid_base.specs.declared.numbers.BayNo.{BayNo}
use Rattle.raid_base.specs.declared.numbers.HostNo.{HostNo}
use Rattle.raid_base.specs.declared.numbers.Number.{Number}
use Rattle.raid_base.specs.declared.numbers.Spent.{Spent}
use Rattle.raid_base.specs.declared.cells.Content.{Content}
use Rattle.raid_base.specs.declared.messages.Errand.{Errand}
use Rattle.raid_base.specs.declared.messages.Reply.{Reply}
use Rattle.raid_base.specs.declared.messages.Call.{Call}
use Rattle.raid_base.specs.declared.jobs.Job.{Job}
use Rattle.raid_base.specs.declared.jobs.Task.{Task}
use Rattle.raid_base.specs.declared.jobs.Task.TheVariants as tasks
use Rattle.raid_base.specs.declared.jobs.RowPart.{RowPart}
use Rattle.raid_base.specs.declared.jobs.PartsFault.{PartsFault}
use Rattle.raid_base.specs.declared.jobs.PartsFault.TheVariants as faults
use Rattle.raid_base.specs.declared.jobs.Cause.{Cause}
use Rattle.raid_base.specs.declared.jobs.Cause.TheVariants as causes
use Rattle.raid_base.specs.declared.jobs.Ended.{Ended}
use Rattle.raid_base.specs.declared.jobs.Ended.TheVariants as ends
use Rattle.raid_base.specs.declared.jobs.JobEnd.{JobEnd}
use Rattle.raid_base.specs.declared.jobs.JobEnd.TheVariants as job_ends
use Rattle.raid_base.specs.Fits.{fits}
use Rattle.raid_base.specs.Numbers.{draw, seen_drawn, sees}
use Rattle.raid_base.specs.Steps.{Commit, Steps, Asks, Draws, Ends, Standing, settled, behind, told, errand_of}
use Rattle.attempts.specs.Phases.{IsIn}
use Rattle.attempts.specs.Taking.{Finish}
use Rattle.attempts.specs.Finishes.{Finishes, IsReadEnd, unit_count, GivesNone}
use Rattle.attempts.proofs.ReadFinishes.{reads_finish}
use Rattle.attempts.proofs.WriteFinishes.{writes_finish}
use Rattle.attempts.proofs.RepairFinishes.{mends_finish, recoveries_finish}
use Rattle.attempts.proofs.RoomLemmas.{all-append}
use Rattle.script_text.specs.Script.{Script, jobs_of, parts_of, blocks_of}
use Rattle.script_text.specs.Ranges.{IsScript}
use Rattle.serial_array.specs.Serial.{number_of}
use Rattle.histories.specs.declared.operator.Gone.{Gone}
use Rattle.histories.specs.Operator.{is_gone}
use Rattle.histories.specs.Hands.{Led, InHand, HasWork, IsInHand}
use Rattle.histories.specs.Progress.{Ending, Work, Trying, Losing, Fitting, Over, Progress, endings_of, with_ending, next_job, access, read_of, write_of, attempt, try_with, one_more, parts_end, try_parts, lose_job, fit_job, rebuild_job, start_task, start_jobs, stops, go_on, job_ended, task_of, try_again, once_more, is_spent, attempt_refused, next_row, row_mended, attempt_ended, quit_end, asks_on, steps_left, work_told, call_counted, takes, work_errand}
use Rattle.histories.specs.History.{if_taken, progress_at, IsHistory}
use Rattle.histories.proofs.bounds.BoundsTakes.{before_start}
use Rattle.histories.proofs.hands.Attempting.{hand-at, own-errand, reply-fits}
use Rattle.histories.specs.Results.{EachEnding}
use Rattle.row_laws.proofs.torn.TornEndings.{calls-among}

-- it came to its end, or its host stopped before a request
pub data HowEnded (steps : Steps Finish) (e : Ending) : Type 0 where
  Finished : (f : Finish) (at : steps ≡ Ends f) (ended : e.ended ≡ quit_end e.tries f.ended) (contents : e.contents ≡ f.contents) → HowEnded steps e
  Halted : (errand : Errand) (stop : Ended) (commits : List Commit) (go : Reply → Steps Finish) (at : steps ≡ Asks errand stop commits go)
      (ended : e.ended ≡ quit_end e.tries stop) (contents : e.contents ≡ []) → HowEnded steps e

-- the last attempt of a job that has ended so
pub record Story (script : Script) (history : List Call) (host : HostNo) (e : Ending) : Type 0 where
  pub row : ℕ
  pub seen : Number
  pub steps : Steps Finish
  pub hand : InHand script host (e.job ∷ []) row seen e.calls steps
  pub how : HowEnded steps e
  pub among : (c : Call) → IsIn c e.calls → IsIn c history

-- Contents: of the attempts that end with a number only reads give any
abbrev IsBare : List Content → Ended → Type 0
IsBare read (ends.Read n) = Unit {0}
IsBare read (ends.Wrote n) = read ≡ []
IsBare read (ends.Part n made cause) = read ≡ []
IsBare read (ends.Recovered n closed lost) = read ≡ []
IsBare read (ends.Refused cause) = Unit {0}
IsBare read ends.Mended = Unit {0}

abbrev IsBareFinish : Finish → Type 0
IsBareFinish f = IsBare f.contents f.ended

read-bare : (count : ℕ) (read : List Content) (ended : Ended) → IsReadEnd count read ended → IsBare read ended
read-bare count read (ends.Read n) h = tt
read-bare count read (ends.Wrote n) h = absurd h
read-bare count read (ends.Part n made cause) h = absurd h
read-bare count read (ends.Recovered n closed lost) h = absurd h
read-bare count read (ends.Refused cause) h = tt
read-bare count read ends.Mended h = tt

none-bare : (read : List Content) (ended : Ended) → read ≡ [] → IsBare read ended
none-bare read (ends.Read n) none = tt
none-bare read (ends.Wrote n) none = none
none-bare read (ends.Part n made cause) none = none
none-bare read (ends.Recovered n closed lost) none = none
none-bare read (ends.Refused cause) none = tt
none-bare read ends.Mended none = tt

-- an end that is P is Q
finishes-so : (P Q : Finish → Type 0) → ((f : Finish) → P f → Q f) → (s : Steps Finish) → Finishes P s → Finishes Q s
finishes-so P Q so (Ends f) h = so f h
finishes-so P Q so (Draws k) h = λ d. finishes-so P Q so (k d) (h d)
finishes-so P Q so (Asks e s c k) h = (h.0, λ r. finishes-so P Q so (k r) (h.1 r))

bare-of-none : (s : Steps Finish) → Finishes GivesNone s → Finishes IsBareFinish s
bare-of-none s h = finishes-so GivesNone IsBareFinish (λ f g. none-bare f.contents f.ended g.contents) s h

-- so each attempt ends
reads-bare : (script : Script) (id : Number) (r : Result (List RowPart) PartsFault) → Finishes IsBareFinish (read_of script id r)
reads-bare script id (Ok parts) =
    finishes-so (λ (f : Finish). IsReadEnd (unit_count script.n parts) f.contents f.ended) IsBareFinish (λ f g. read-bare (unit_count script.n parts) f.contents f.ended g)
    (read_of script id (Ok parts)) (reads_finish (access script id parts []))
reads-bare script id (Err fault) = tt

writes-bare : (script : Script) (id : Number) (blocks : List (List ℕ)) (r : Result (List RowPart) PartsFault) → Finishes IsBareFinish (write_of script id blocks r)
writes-bare script id blocks (Ok parts) = bare-of-none (write_of script id blocks (Ok parts)) (writes_finish (access script id parts blocks))
writes-bare script id blocks (Err fault) = tt

attempt-bare : (script : Script) (host : HostNo) (id : Number) (row : ℕ) (task : Task) → Finishes IsBareFinish (attempt script host id row task)
attempt-bare script host id row (tasks.Read object first count) = reads-bare script id (parts_of script object first count)
attempt-bare script host id row (tasks.Write object first from count) = writes-bare script id (blocks_of script from count) (parts_of script object first count)
attempt-bare script host id row (tasks.Recover at) =
    bare-of-none (attempt script host id row (tasks.Recover at)) (recoveries_finish (record { n = script.n; host = host; id = id; row = at }))
attempt-bare script host id row (tasks.Rebuild bay) =
    bare-of-none (attempt script host id row (tasks.Rebuild bay)) (mends_finish (record { n = script.n; id = id; row = record { 0 = row }; target = bay }))
attempt-bare script host id row (tasks.Lose bay) = tt
attempt-bare script host id row (tasks.Fit bay) = tt

-- and so it is where its calls have led
module _ (Q : Finish → Type 0) (host : HostNo) where
  settled-finishes : (seen : Number) (s : Steps Finish) → Finishes Q s → Finishes Q (settled host seen s).steps
  settled-finishes seen (Asks e t c k) h = h
  settled-finishes seen (Draws k) h = settled-finishes (seen_drawn seen (draw host seen)) (k (draw host seen)) (h (draw host seen))
  settled-finishes seen (Ends f) h = h

  behind-finishes : (s : Steps Finish) (r : Reply) → Finishes Q s → Finishes Q (behind s r)
  behind-finishes (Asks e t c k) r h = h.1 r
  behind-finishes (Draws k) r h = h
  behind-finishes (Ends f) r h = h

  led-finishes : (start : Standing Finish) (calls : List Call) (now : Standing Finish) → Finishes Q start.steps → Led host start calls now → Finishes Q now.steps
  led-finishes start [] now h led = subst (λ (x : Standing Finish). Finishes Q x.steps) led h
  led-finishes start (call ∷ earlier) now h (before, led, asked, fit, later) =
      subst (λ (x : Standing Finish). Finishes Q x.steps) later
      (settled-finishes (sees before.seen call.answer.reply) (behind before.steps call.answer.reply)
      (behind-finishes before.steps call.answer.reply (led-finishes start earlier before h led)))

hand-bare : (script : Script) (host : HostNo) (jobs : List Job) (row : ℕ) (seen : Number) (calls : List Call) (steps : Steps Finish) →
    InHand script host jobs row seen calls steps → Finishes IsBareFinish steps
hand-bare script host jobs row seen calls steps hand =
    led-finishes IsBareFinish host (settled host hand.id (attempt script host hand.id row hand.task)) calls (record { seen = seen; steps = steps })
    (settled-finishes IsBareFinish host hand.id (attempt script host hand.id row hand.task) (attempt-bare script host hand.id row hand.task)) hand.led

none-some : {X : Type 0} (o : Option Number) → o ≡ None → IsSome o → X
none-some None none some = absurd (cc some)
none-some (Some n) none some = absurd (cc)

-- The results of a host, with calls that are all of the history
module _ (script : Script) (host : HostNo) (history : List Call) where
  abbrev AllAmong : List Call → Type 0
  AllAmong calls = (c : Call) → IsIn c calls → IsIn c history

  abbrev HasStory : Ending → Type 0
  HasStory e = IsSome (number_of e.ended) → Story script history host e

  abbrev HaveStories : Progress → Type 0
  HaveStories p = AllByRecursion HasStory p.endings

  -- what the job in hand, if any, gives with this result
  abbrev Due : List Job → JobEnd → List Content → Progress → Type 0
  Due jobs e read p = AllByRecursion HasStory (endings_of jobs e read p)

  due-plain : (jobs : List Job) (e : JobEnd) (read : List Content) (p : Progress) → number_of e ≡ None → Due jobs e read p
  due-plain [] e read p none = tt
  due-plain (job ∷ jobs) e read p none = (λ some. none-some (number_of e) none some, tt)

  next-story : (p : Progress) (e : JobEnd) (read : List Content) → HaveStories p → Due p.jobs e read p → HaveStories (next_job (with_ending p e read))
  next-story p e read s due = all-append HasStory p.endings (endings_of p.jobs e read p) s due

  -- where it goes on
  abbrev Begins : (Progress → Progress) → Type 0
  Begins rest = (q : Progress) → HaveStories q → HaveStories (rest q)

  module _ (rest : Progress → Progress) (begins : Begins rest) where
    skips : (p : Progress) (e : JobEnd) → number_of e ≡ None → HaveStories p → HaveStories (rest (next_job (with_ending p e [])))
    skips p e none s = begins (next_job (with_ending p e [])) (next-story p e [] s (due-plain p.jobs e [] p none))

    tries-story : (task : Task) (p : Progress) (d : Result Number Spent) → HaveStories p → HaveStories (try_with script host task rest (one_more p) d)
    tries-story task p (Ok id) s = s
    tries-story task p (Err spent) s = skips (one_more p) (job_ends.Gave (p.tries + 1) (causes.Spent spent.seen)) refl s

    parts-plain : (fault : PartsFault) → number_of (parts_end fault) ≡ None
    parts-plain faults.NoObject = refl
    parts-plain (faults.PastEnd end) = refl
    parts-plain (faults.TooManyRows rows) = refl

    parts-story : (task : Task) (p : Progress) (r : Result (List RowPart) PartsFault) → HaveStories p → HaveStories (try_parts script host task rest p r)
    parts-story task p (Ok parts) s = tries-story task p (draw host p.seen) s
    parts-story task p (Err fault) s = skips p (parts_end fault) (parts-plain fault) s

    loses-story : (p : Progress) (bay : BayNo) (gone : Option Gone) → HaveStories p → HaveStories (lose_job rest p bay gone)
    loses-story p bay None s = s
    loses-story p bay (Some gone) s = skips p (job_ends.StillMissing gone.bay) refl s

    fits-story : (p : Progress) (bay : BayNo) (lost : Bool) → HaveStories p → HaveStories (fit_job rest p bay lost)
    fits-story p bay true s = s
    fits-story p bay false s = skips p (job_ends.NotLost bay) refl s

    rebuilds-story : (p : Progress) (bay : BayNo) (fitted : Bool) → HaveStories p → HaveStories (rebuild_job script host rest p bay fitted)
    rebuilds-story p bay true s = tries-story (tasks.Rebuild bay) p (draw host p.seen) s
    rebuilds-story p bay false s = skips p (job_ends.NotFitted bay) refl s

    starts-story : (task : Task) (p : Progress) → HaveStories p → HaveStories (start_task script host rest p task)
    starts-story (tasks.Read object first count) p s = parts-story (tasks.Read object first count) p (parts_of script object first count) s
    starts-story (tasks.Write object first from count) p s = parts-story (tasks.Write object first from count) p (parts_of script object first count) s
    starts-story (tasks.Recover row) p s = tries-story (tasks.Recover row) p (draw host p.seen) s
    starts-story (tasks.Lose bay) p s = loses-story p bay p.gone s
    starts-story (tasks.Fit bay) p s = fits-story p bay (is_gone bay false p.gone) s
    starts-story (tasks.Rebuild bay) p s = rebuilds-story p bay (is_gone bay true p.gone) s

  jobs-story : (jobs : List Job) → Begins (start_jobs script host jobs)
  jobs-story [] p s = s
  jobs-story (job ∷ jobs) p s = starts-story (start_jobs script host jobs) (jobs-story jobs) job.task p s

  on-story : (q : Progress) (stopped : Bool) → HaveStories (next_job q) → HaveStories (go_on script host q stopped)
  on-story q true s = s
  on-story q false s = jobs-story (drop 1 q.jobs) (next_job q) s

  ended-story : (p : Progress) (e : JobEnd) (read : List Content) → HaveStories p → Due p.jobs e read p → HaveStories (job_ended script host p e read)
  ended-story p e read s due = on-story (with_ending p e read) (stops p) (next-story p e read s due)

  ended-plain : (p : Progress) (e : JobEnd) → HaveStories p → number_of e ≡ None → HaveStories (job_ended script host p e [])
  ended-plain p e s none = ended-story p e [] s (due-plain p.jobs e [] p none)

  again-story : (later : Progress) (o : Option Task) → HaveStories later → HaveStories (try_again script host later o)
  again-story later None s = s
  again-story later (Some task) s = tries-story (start_jobs script host (drop 1 later.jobs)) (jobs-story (drop 1 later.jobs)) task later (draw host later.seen) s

  more-story : (p later : Progress) (stopped : Bool) → HaveStories p → HaveStories later → HaveStories (once_more script host p later stopped)
  more-story p later true s t = ended-plain p (job_ends.Gave p.tries causes.Quit) s refl
  more-story p later false s t = again-story later (task_of p.jobs) t

  refused-story : (p : Progress) (cause : Cause) (last : Bool) → HaveStories p → HaveStories (attempt_refused script host p cause last)
  refused-story p cause true s = ended-plain p (job_ends.Gave p.tries cause) s refl
  refused-story p cause false s = more-story p p (stops p) s s

  mended-story : (p : Progress) (last : Bool) → HaveStories p → HaveStories (row_mended script host p last)
  mended-story p true s = ended-plain (record p { gone = None }) job_ends.Rebuilt s refl
  mended-story p false s = more-story p (next_row p) (stops p) s s

  -- An attempt of the job in hand
  module _ (p : Progress) (steps : Steps Finish) (hand : InHand script host p.jobs p.row p.seen p.calls steps) (all : AllAmong p.calls) (s : HaveStories p) where
    abbrev HasEnded : JobEnd → List Content → Type 0
    HasEnded e read = (job : Job) → HowEnded steps (record { job = job; ended = e; contents = read; asked = p.asked; tries = p.tries; calls = p.calls })

    due-so : (jobs : List Job) → task_of jobs ≡ Some hand.task → (e : JobEnd) (read : List Content) → HasEnded e read → Due jobs e read p
    due-so [] first e read how = tt
    due-so (job ∷ jobs) first e read how =
        let mine : InHand script host (job ∷ []) p.row p.seen p.calls steps = record {
          task = hand.task;
          first = first;
          is = hand.is;
          tried = hand.tried;
          id = hand.id;
          own = hand.own;
          least = hand.least;
          most = hand.most;
          led = hand.led;
        } in
        (λ some. record { row = p.row; seen = p.seen; steps = steps; hand = mine; how = how job; among = all }, tt)

    ended-so : (e : JobEnd) (read : List Content) → HasEnded e read → HaveStories (job_ended script host p e read)
    ended-so e read how = ended-story p e read s (due-so p.jobs hand.first e read how)

    attempt-story : (f : Finish) → steps ≡ Ends f → IsBareFinish f → HaveStories (attempt_ended script host p f.contents f.ended)
    attempt-story f at bare = by f.ended refl bare
      where
        quits : (last : Ended) → f.ended ≡ last → quit_end p.tries last ≡ quit_end p.tries f.ended
        quits last same = ap (λ (x : Ended). quit_end p.tries x) (sym same)

        by : (last : Ended) → f.ended ≡ last → IsBare f.contents last → HaveStories (attempt_ended script host p f.contents last)
        by (ends.Read n) same b = ended-so (job_ends.Read n) f.contents (λ job. Finished f at (quits (ends.Read n) same) refl)
        by (ends.Wrote n) same b = ended-so (job_ends.Wrote n) [] (λ job. Finished f at (quits (ends.Wrote n) same) (sym b))
        by (ends.Part n made cause) same b = ended-so (job_ends.Part n made cause) [] (λ job. Finished f at (quits (ends.Part n made cause) same) (sym b))
        by (ends.Recovered n closed lost) same b = ended-so (job_ends.Recovered n closed lost) [] (λ job. Finished f at (quits (ends.Recovered n closed lost) same) (sym b))
        by (ends.Refused cause) same b = refused-story p cause ((p.tries == script.tries) || is_spent cause) s
        by ends.Mended same b = mended-story p (p.row + 1 == script.rows) s

    -- the host stops in it
    asks-story : (errand : Errand) (stop : Ended) (commits : List Commit) (go : Reply → Steps Finish) → steps ≡ Asks errand stop commits go → (stopped : Bool) →
        HaveStories (asks_on p (Asks errand stop commits go) stop stopped)
    asks-story errand stop commits go at true =
        next-story p (quit_end p.tries stop) [] s (due-so p.jobs hand.first (quit_end p.tries stop) [] (λ job. Halted errand stop commits go at refl refl))
    asks-story errand stop commits go at false = s

    left-story : (x : Steps Finish) → steps ≡ x → Finishes IsBareFinish x → HaveStories (steps_left script host p x)
    left-story (Asks e t c k) at bare = asks-story e t c k at (stops p)
    left-story (Draws k) at bare = s
    left-story (Ends f) at bare = attempt-story f at bare

  -- Calls
  module _ (p : Progress) (call : Call) (fit : fits call.ask.what call.answer.reply ≡ true) (all : AllAmong (call ∷ p.calls)) (s : HaveStories p) where
    told-story : (work : Work) → work_errand work ≡ Some (errand_of call) → HasWork script host p.jobs p.row p.seen p.calls work →
        HaveStories (work_told script host (call_counted p call) call.answer.reply work)
    told-story (Trying steps) asked w =
        let before : Standing Finish = record { seen = p.seen; steps = steps } in
        let now : Standing Finish = told host before call.answer.reply in
        let hand : InHand script host p.jobs p.row now.seen (call ∷ p.calls) now.steps = record {
          task = w.task;
          first = w.first;
          is = w.is;
          tried = w.tried;
          id = w.id;
          own = w.own;
          least = w.least;
          most = w.most;
          led = (before, w.led, asked, fit, refl);
        } in
        left-story (record (call_counted p call) { seen = now.seen }) now.steps hand all s now.steps refl
        (hand-bare script host p.jobs p.row now.seen (call ∷ p.calls) now.steps hand)
    told-story (Losing bay) asked w = ended-plain (record (call_counted p call) { gone = Some (record { bay = bay; fitted = false }) }) job_ends.Lost s refl
    told-story (Fitting bay) asked w = ended-plain (record (call_counted p call) { gone = Some (record { bay = bay; fitted = true }) }) job_ends.Fitted s refl
    told-story Over asked w = absurd (cc)

    takes-story : work_errand p.work ≡ Some (errand_of call) → IsInHand script host p → HaveStories (takes script host p call)
    takes-story asked hand = told-story p.work asked hand

  history-story : IsScript script → (earlier : List Call) → IsHistory script earlier → AllAmong earlier → HaveStories (progress_at script host earlier)
  history-story is [] along all = jobs-story (jobs_of script host) (before_start script host) tt
  history-story is (call ∷ earlier) along all = by (call.ask.host.0 == host.0) refl (history-story is earlier along.0 (λ c i. all c (inr i)))
    where
      p : Progress
      p = progress_at script host earlier

      grown : (c : Call) → IsIn c (call ∷ p.calls) → IsIn c history
      grown c (inl same) = all c (inl same)
      grown c (inr i) = all c (inr (calls-among script is host earlier along.0 c i))

      by : (b : Bool) → (call.ask.host.0 == host.0) ≡ b → HaveStories p → HaveStories (if_taken script host p call b)
      by true e s = takes-story p call (reply-fits script earlier call along.1) grown s (own-errand script earlier call along.1 host e) (hand-at script is host earlier along.0)
      by false e s = s

pub stories : (script : Script) (history : List Call) → IsScript script → IsHistory script history →
    EachEnding script history (λ host e. IsSome (number_of e.ended) → Story script history host e)
stories script history is along host = history-story script host history is history along (λ c i. i)
