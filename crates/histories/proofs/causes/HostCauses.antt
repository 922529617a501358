-- Each result of a host that gives a cause has it.
use Rattle.std.proofs.Common.{◌≡◌, ◌⊎◌, inl, inr, refl, sym, ap, subst, ◌∙◌, ℕ, ◌+◌, ◌≤◌, ◌==◌, ◌||◌, Bool, true, false, List, [], ◌∷◌, ◌++◌, drop, Option, Some, None, Result, Ok, Err, arith, append_assoc}
use Rattle.std.specs.Prelude.{IsNone}
use Rattle.std.specs.List.{AllByRecursion}
use Rattle.std.proofs.lemmas.Bool.Decides.{nat_tests}
use Rattle.raid_base.specs.declared.numbers.BayNo.{BayNo}
use Rattle.raid_base.specs.declared.numbers.HostNo.{HostNo}
use Rattle.raid_base.specs.declared.numbers.Number.{Number}
use Rattle.raid_base.specs.declared.numbers.Spent.{Spent}
use Rattle.raid_base.specs.declared.cells.Content.{Content}
use Rattle.raid_base.specs.declared.messages.Call.{Call}
use Rattle.raid_base.specs.declared.messages.Errand.{Errand}
use Rattle.raid_base.specs.declared.messages.Request.{Request}
use Rattle.raid_base.specs.declared.jobs.Job.{Job}
use Rattle.raid_base.specs.declared.jobs.Task.{Task}
use Rattle.raid_base.specs.declared.jobs.Task.TheVariants as tasks
use Rattle.raid_base.specs.declared.jobs.RowPart.{RowPart}
use Rattle.raid_base.specs.declared.jobs.PartsFault.{PartsFault}
use Rattle.raid_base.specs.declared.jobs.PartsFault.TheVariants as faults
use Rattle.raid_base.specs.declared.jobs.Cause.{Cause}
use Rattle.raid_base.specs.declared.jobs.Cause.TheVariants as causes
use Rattle.raid_base.specs.declared.jobs.Ended.{Ended}
use Rattle.raid_base.specs.declared.jobs.Ended.TheVariants as ends
use Rattle.raid_base.specs.declared.jobs.JobEnd.{JobEnd}
use Rattle.raid_base.specs.declared.jobs.JobEnd.TheVariants as job_ends
use Rattle.raid_base.specs.Fits.{fits}
use Rattle.raid_base.specs.Numbers.{next_number, draw, seen_drawn, sees}
use Rattle.raid_base.specs.Replies.{is_fault}
use Rattle.raid_base.specs.Steps.{Steps, Asks, Draws, Ends, settled, told, behind, draws, next_errand, errand_of}
use Rattle.slot_rules.proofs.RuleLaws.{replies_fit_lem}
use Rattle.virtual_objects.specs.Objects.{rows_of}
use Rattle.attempts.specs.Taking.{Finish}
use Rattle.script_text.specs.Script.{Script, jobs_of, parts_of, blocks_of}
use Rattle.script_text.specs.Ranges.{IsScript}
use Rattle.histories.specs.declared.operator.Gone.{Gone}
use Rattle.histories.specs.Operator.{is_gone}
use Rattle.histories.specs.Progress.{Ending, Work, Trying, Losing, Fitting, Over, Progress, Sent, asks, sent_by, work_errand, endings_of, with_ending, next_job, attempt, read_of, write_of, try_with, one_more, try_task, parts_end, try_parts, lose_job, fit_job, rebuild_job, start_task, start_jobs, stops_at, job_stops, stops, go_on, job_ended, task_of, try_again, once_more, is_spent, attempt_refused, next_row, row_mended, attempt_ended, quit_end, asks_on, steps_left, work_told, call_counted}
use Rattle.histories.specs.History.{if_taken, progress_at, bay_at, endings_at, IsNext, IsHistory}
use Rattle.histories.specs.Calls.{Sometime}
use Rattle.histories.specs.Bounds.{IsAimed}
use Rattle.histories.specs.Causes.{DrawsAfter, IsDraw, IsCauseIn, AreTries, MeetsCause}
use Rattle.histories.specs.HostLaws.{CausesAreMet}
use Rattle.histories.proofs.bounds.BoundsTakes.{before_start, script-aims}
use Rattle.histories.proofs.bounds.Awake.{parts-some, read-asks, write-asks}
use Rattle.attempts.proofs.RoomLemmas.{all-append}
use Rattle.histories.proofs.causes.CauseLemmas.{Stands, stands-in, IsReply, IsStopCause, Caused, FinishStands, sometime-now}
use Rattle.histories.proofs.causes.SpentDraws.{spent_in, spent_of, IsIdDraw, IsIdDrawn, ids-are-drawn}
use Rattle.histories.proofs.causes.RepairCauses.{mends_caused, recoveries_caused}
use Rattle.histories.proofs.causes.ReadCauses.{reads_caused}
use Rattle.histories.proofs.causes.WriteCauses.{writes_caused}

same-host : (a b : HostNo) → (a.0 == b.0) ≡ true → a ≡ b
same-host a b e = let same : a.0 ≡ b.0 = grind (arith, nat_tests) in ap (λ (k : ℕ). record { 0 = k }) same

-- what is left once numbers were drawn, of which S holds where none is left, or a reply was told
pub settled-caused : (host : HostNo) (S : List Call → Number → Type 0) (Q : List Call → Finish → Type 0) (calls : List Call) (seen : Number) (s : Steps Finish)
    → (draws s ≡ true → IsNone (next_number host seen) → S calls seen)
    → Caused host S Q calls s → Caused host S Q calls (settled host seen s).steps
settled-caused host S Q calls seen (Asks e t c k) known h = h
settled-caused host S Q calls seen (Draws k) known h =
    settled-caused host S Q calls (seen_drawn seen (draw host seen)) (k (draw host seen)) (λ d. absurd (let bad : true ≡ false = sym d ∙ (h seen).0 in cc)) ((h seen).1 (known refl))
settled-caused host S Q calls seen (Ends f) known h = h

pub behind-caused : (host : HostNo) (S : List Call → Number → Type 0) (Q : List Call → Finish → Type 0) (calls : List Call) (call : Call) (s : Steps Finish) → Caused host S Q calls s
    → ((e : Errand) → next_errand s ≡ Some e → IsReply e call) → next_errand s ≡ Some (errand_of call) → Caused host S Q (call ∷ calls) (behind s call.answer.reply)
behind-caused host S Q calls call (Asks e t c k) h is asked = h.1 call (is e refl)
behind-caused host S Q calls call (Draws k) h is asked = cc
behind-caused host S Q calls call (Ends f) h is asked = cc

-- calls after which something was so once
sometime-in : (P : List Call → Type 0) (later now : List Call) → P now → Sometime P (later ++ now)
sometime-in P [] now p = sometime-now P now p
sometime-in P (call ∷ later) now p = inr (sometime-in P later now p)

sometime-map : (P Q : List Call → Type 0) → ((calls : List Call) → P calls → Q calls) → (calls : List Call) → Sometime P calls → Sometime Q calls
sometime-map P Q f [] p = f [] p
sometime-map P Q f (call ∷ calls) (inl p) = inl (f (call ∷ calls) p)
sometime-map P Q f (call ∷ calls) (inr p) = inr (sometime-map P Q f calls p)

sometime-swap : (P : List Call → List Call → Type 0) (xs ys : List Call) → Sometime (λ x. Sometime (λ y. P x y) ys) xs → Sometime (λ y. Sometime (λ x. P x y) xs) ys
sometime-swap P [] ys h = h
sometime-swap P (call ∷ xs) ys (inl h) = sometime-map (λ y. P (call ∷ xs) y) (λ y. Sometime (λ x. P x y) (call ∷ xs)) (λ y p. inl p) ys h
sometime-swap P (call ∷ xs) ys (inr h) =
    sometime-map (λ y. Sometime (λ x. P x y) xs) (λ y. Sometime (λ x. P x y) (call ∷ xs)) (λ y p. inr p) ys (sometime-swap P xs ys h)

sometime-both : (P : List Call → Type 0) (X : Type 0) (calls : List Call) → Sometime (λ made. P made × X) calls → Sometime P calls × X
sometime-both P X [] h = h
sometime-both P X (call ∷ calls) (inl h) = (inl h.0, h.1)
sometime-both P X (call ∷ calls) (inr h) = let both = sometime-both P X calls h in (inr both.0, both.1)

-- the host stops in the job in hand
quits : (quit : Option ℕ) (asked : ℕ) → stops_at quit asked ≡ true → quit ≡ Some asked
quits None asked e = cc
quits (Some k) asked e = let same : k ≡ asked = grind (arith, nat_tests) in ap (λ (x : ℕ). Some x) same

-- all allowed attempts were made, unless numbers are spent
all-tries : (all tries : ℕ) (cause : Cause) → tries ≤ all → ((tries == all) || is_spent cause) ≡ true → AreTries all tries cause
all-tries all tries (causes.Spent seen) few e = few
all-tries all tries causes.Quit few e = few
all-tries all tries (causes.Busy holder) few e = grind (arith, nat_tests)
all-tries all tries (causes.Late above) few e = grind (arith, nat_tests)
all-tries all tries (causes.Young note) few e = grind (arith, nat_tests)
all-tries all tries (causes.Behind floor) few e = grind (arith, nat_tests)
all-tries all tries (causes.Fault bay) few e = grind (arith, nat_tests)
all-tries all tries (causes.Broken first second) few e = grind (arith, nat_tests)
all-tries all tries (causes.Gone bay) few e = grind (arith, nat_tests)
all-tries all tries (causes.Changed row) few e = grind (arith, nat_tests)
all-tries all tries (causes.Released row) few e = grind (arith, nat_tests)
all-tries all tries (causes.Seized row) few e = grind (arith, nat_tests)

module _ (script : Script) (is : IsScript script) (host : HostNo) (history : List Call) where
  -- the host had seen this number when it drew after these calls of an attempt, and there was none above it
  abbrev pub AtDraw : List Call → Number → Type 0
  AtDraw made seen = Sometime (λ now. DrawsAfter script host seen now made) history × IsNone (next_number host seen)

  -- Attempts. What may be tried
  abbrev pub IsTriable : Task → Type 0
  IsTriable (tasks.Read object first count) = (parts : List RowPart) × (parts_of script object first count ≡ Ok parts)
  IsTriable (tasks.Write object first from count) = (parts : List RowPart) × (parts_of script object first count ≡ Ok parts)
  IsTriable (tasks.Recover row) = Unit {0}
  IsTriable (tasks.Rebuild bay) = Unit {0}
  IsTriable (tasks.Lose bay) = ⊥
  IsTriable (tasks.Fit bay) = ⊥

  attempt-caused : (id : Number) (row : ℕ) (task : Task) → IsTriable task → Caused host AtDraw (FinishStands script host AtDraw task) [] (attempt script host id row task)
  attempt-caused id row (tasks.Read object first count) may =
      subst (λ (r : Result (List RowPart) PartsFault). Caused host AtDraw (FinishStands script host AtDraw (tasks.Read object first count)) [] (read_of script id r)) (sym may.1)
      (reads_caused script host AtDraw (tasks.Read object first count) tt id may.0 [])
  attempt-caused id row (tasks.Write object first from count) may =
      subst (λ (r : Result (List RowPart) PartsFault). Caused host AtDraw (FinishStands script host AtDraw (tasks.Write object first from count)) [] (write_of script id (blocks_of script from count) r)) (sym may.1)
      (writes_caused script host AtDraw (tasks.Write object first from count) tt id may.0 (blocks_of script from count))
  attempt-caused id row (tasks.Recover at) may = recoveries_caused script host AtDraw id at
  attempt-caused id row (tasks.Rebuild bay) may = mends_caused script host AtDraw bay id (record { 0 = row })
  attempt-caused id row (tasks.Lose bay) may = absurd may
  attempt-caused id row (tasks.Fit bay) may = absurd may

  attempt-asks : (id : Number) (row : ℕ) (task : Task) → IsAimed script task → IsTriable task → draws (attempt script host id row task) ≡ false
  attempt-asks id row (tasks.Read object first count) aim may =
      let are = parts-some script is host object first count may.0 aim (rows_of script.objects object) refl may.1 in
      subst (λ (r : Result (List RowPart) PartsFault). draws (read_of script id r) ≡ false) (sym may.1) (read-asks script is host id may.0 are.0 are.1)
  attempt-asks id row (tasks.Write object first from count) aim may =
      let are = parts-some script is host object first count may.0 aim (rows_of script.objects object) refl may.1 in
      subst (λ (r : Result (List RowPart) PartsFault). draws (write_of script id (blocks_of script from count) r) ≡ false) (sym may.1)
      (write-asks script is host id may.0 (blocks_of script from count) are.0)
  attempt-asks id row (tasks.Recover at) aim may = refl
  attempt-asks id row (tasks.Rebuild bay) aim may = refl
  attempt-asks id row (tasks.Lose bay) aim may = absurd may
  attempt-asks id row (tasks.Fit bay) aim may = absurd may

  -- Where a host stands. A cause stands in the calls of the last attempt, or the host stops, or there was no id for the attempt
  abbrev IsFounded : Ending → Cause → Type 0
  IsFounded e cause =
      Stands script host AtDraw e.job.task e.calls cause
      ⊎ (((cause ≡ causes.Quit) × (e.job.quit ≡ Some e.asked)) ⊎ ((seen : Number) × (cause ≡ causes.Spent seen) × (e.calls ≡ [])))

  abbrev IsMet : Ending → JobEnd → Type 0
  IsMet e (job_ends.Part n made cause) = IsFounded e cause
  IsMet e (job_ends.Gave tries cause) = IsFounded e cause × (tries ≡ e.tries) × AreTries script.tries tries cause
  IsMet e _ = Unit {0}

  abbrev Met : Ending → Type 0
  Met e = IsMet e e.ended

  abbrev AreAimed : List Job → Type 0
  AreAimed jobs = AllByRecursion (λ (job : Job). IsAimed script job.task) jobs

  rest-aims : (jobs : List Job) → AreAimed jobs → AreAimed (drop 1 jobs)
  rest-aims [] aims = tt
  rest-aims (job ∷ jobs) aims = aims.1

  pub record Sound (p : Progress) : Type 0 where
    pub met : AllByRecursion Met p.endings
    pub aims : AreAimed p.jobs

  -- the attempt in hand
  pub record Tries (made : ℕ) (calls : List Call) (task : Task) (steps : Steps Finish) : Type 0 where
    pub may : IsTriable task
    pub few : made ≤ script.tries
    pub caused : Caused host AtDraw (FinishStands script host AtDraw task) calls steps

  abbrev pub TriesJob : ℕ → List Call → List Job → Steps Finish → Type 0
  TriesJob made calls [] steps = ⊥
  TriesJob made calls (job ∷ jobs) steps = Tries made calls job.task steps

  abbrev pub Works : ℕ → List Call → List Job → Work → Type 0
  Works made calls jobs (Trying steps) = TriesJob made calls jobs steps
  Works made calls jobs (Losing bay) = Unit {0}
  Works made calls jobs (Fitting bay) = Unit {0}
  Works made calls jobs Over = Unit {0}

  pub record StandsWell (p : Progress) : Type 0 where
    pub sound : Sound p
    pub work : Works p.tries p.calls p.jobs p.work

  -- the job in hand may have this result
  abbrev Due : Progress → List Job → JobEnd → List Content → Type 0
  Due p [] ended read = Unit {0}
  Due p (job ∷ jobs) ended read = IsMet (record { job = job; ended = ended; contents = read; asked = p.asked; tries = p.tries; calls = p.calls }) ended

  one-ended : (p : Progress) (e : JobEnd) (read : List Content) (js : List Job) → Due p js e read → AllByRecursion Met (endings_of js e read p)
  one-ended p e read [] due = tt
  one-ended p e read (job ∷ jobs) due = (due, tt)

  next-sound : (p : Progress) (e : JobEnd) (read : List Content) → Sound p → Due p p.jobs e read → Sound (next_job (with_ending p e read))
  next-sound p e read s due = record { met = all-append Met p.endings (endings_of p.jobs e read p) s.met (one-ended p e read p.jobs due); aims = rest-aims p.jobs s.aims }

  -- a result without a cause
  abbrev IsPlain : JobEnd → Type 0
  IsPlain e = (x : Ending) → IsMet x e

  due-plain : (p : Progress) (js : List Job) (e : JobEnd) (read : List Content) → IsPlain e → Due p js e read
  due-plain p [] e read plain = tt
  due-plain p (job ∷ jobs) e read plain = plain (record { job = job; ended = e; contents = read; asked = p.asked; tries = p.tries; calls = p.calls })

  -- where it goes on with these jobs
  abbrev pub GoesOn : List Job → (Progress → Progress) → Type 0
  GoesOn jobs rest = (q : Progress) → q.jobs ≡ jobs → q.tries ≡ 0 → Sound q → StandsWell (rest q)

  module _ (rest : Progress → Progress) (job : Job) (jobs : List Job) (goes_on : GoesOn jobs rest) (p : Progress) (first : p.jobs ≡ job ∷ jobs) (s : Sound p) (few : p.tries + 1 ≤ script.tries) where
    skips : (q : Progress) (e : JobEnd) → q.jobs ≡ job ∷ jobs → Sound q → Due q q.jobs e [] → StandsWell (rest (next_job (with_ending q e [])))
    skips q e same sound due = goes_on (next_job (with_ending q e [])) (ap (drop 1) same) refl (next-sound q e [] sound due)

    skips-plain : (e : JobEnd) → IsPlain e → StandsWell (rest (next_job (with_ending p e [])))
    skips-plain e plain = skips p e first s (due-plain p p.jobs e [] plain)

    module _ (may : IsTriable job.task) where
      aim : IsAimed script job.task
      aim = (subst AreAimed first s.aims).0

      no-draw : (id : Number) → draws (attempt script host id p.row job.task) ≡ true → ⊥
      no-draw id d = let bad : true ≡ false = sym d ∙ attempt-asks id p.row job.task aim may in cc

      tries-with : (d : Result Number Spent) → draw host p.seen ≡ d → StandsWell (try_with script host job.task rest (one_more p) d)
      tries-with (Ok id) e = record {
        sound = record { met = s.met; aims = s.aims };
        work = subst (λ (js : List Job). TriesJob (p.tries + 1) [] js (settled host id (attempt script host id p.row job.task)).steps) (sym first)
            (record { may = may; few = few; caused = settled-caused host AtDraw (FinishStands script host AtDraw job.task) [] id (attempt script host id p.row job.task) (λ d. absurd (no-draw id d)) (attempt-caused id p.row job.task may) });
      }
      tries-with (Err spent) e =
          skips (one_more p) (job_ends.Gave (p.tries + 1) (causes.Spent spent.seen)) first (record { met = s.met; aims = s.aims })
          (subst (λ (js : List Job). Due (one_more p) js (job_ends.Gave (p.tries + 1) (causes.Spent spent.seen)) []) (sym first) (inr (inr (spent.seen, refl, refl)), refl, few))

      pub tries : StandsWell (try_task script host job.task rest p)
      tries = tries-with (draw host p.seen) refl

    tries-as : (task : Task) → job.task ≡ task → IsTriable task → StandsWell (try_task script host task rest p)
    tries-as task same may =
        subst (λ (t : Task). StandsWell (try_task script host t rest p)) same (tries (subst IsTriable (sym same) may))

    parts-plain : (fault : PartsFault) → IsPlain (parts_end fault)
    parts-plain faults.NoObject x = tt
    parts-plain (faults.PastEnd end) x = tt
    parts-plain (faults.TooManyRows rows) x = tt

    parts-begin : (task : Task) → job.task ≡ task → (r : Result (List RowPart) PartsFault) → ((parts : List RowPart) → r ≡ Ok parts → IsTriable task) → StandsWell (try_parts script host task rest p r)
    parts-begin task same (Ok parts) may = tries-as task same (may parts refl)
    parts-begin task same (Err fault) may = skips-plain (parts_end fault) (parts-plain fault)

    asks-one : (work : Work) → ((made : ℕ) (calls : List Call) (js : List Job) → Works made calls js work) → StandsWell (record p { work = work })
    asks-one work any = record { sound = record { met = s.met; aims = s.aims }; work = any p.tries p.calls p.jobs }

    loses : (bay : BayNo) (gone : Option Gone) → StandsWell (lose_job rest p bay gone)
    loses bay None = asks-one (Losing bay) (λ made calls js. tt)
    loses bay (Some gone) = skips-plain (job_ends.StillMissing gone.bay) (λ x. tt)

    fits-one : (bay : BayNo) (lost : Bool) → StandsWell (fit_job rest p bay lost)
    fits-one bay true = asks-one (Fitting bay) (λ made calls js. tt)
    fits-one bay false = skips-plain (job_ends.NotLost bay) (λ x. tt)

    rebuilds : (bay : BayNo) → job.task ≡ tasks.Rebuild bay → (fitted : Bool) → StandsWell (rebuild_job script host rest p bay fitted)
    rebuilds bay same true = tries-as (tasks.Rebuild bay) same tt
    rebuilds bay same false = skips-plain (job_ends.NotFitted bay) (λ x. tt)

    starts-as : (task : Task) → job.task ≡ task → StandsWell (start_task script host rest p task)
    starts-as (tasks.Read object begin count) same = parts-begin (tasks.Read object begin count) same (parts_of script object begin count) (λ parts e. (parts, e))
    starts-as (tasks.Write object begin from count) same = parts-begin (tasks.Write object begin from count) same (parts_of script object begin count) (λ parts e. (parts, e))
    starts-as (tasks.Recover row) same = tries-as (tasks.Recover row) same tt
    starts-as (tasks.Lose bay) same = loses bay p.gone
    starts-as (tasks.Fit bay) same = fits-one bay (is_gone bay false p.gone)
    starts-as (tasks.Rebuild bay) same = rebuilds bay same (is_gone bay true p.gone)

    pub starts : StandsWell (start_task script host rest p job.task)
    starts = starts-as job.task refl

  pub start-stands : (jobs : List Job) → GoesOn jobs (start_jobs script host jobs)
  start-stands [] p none fresh s = record { sound = record { met = s.met; aims = s.aims }; work = tt }
  start-stands (job ∷ jobs) p first fresh s =
      starts (start_jobs script host jobs) job jobs (start-stands jobs) p first s (let least = is.tries_least in omega (arith, fresh))

  -- A job ends
  on-stands : (q : Progress) (stopped : Bool) → Sound (next_job q) → StandsWell (go_on script host q stopped)
  on-stands q true s = record { sound = record { met = s.met; aims = s.aims }; work = tt }
  on-stands q false s = start-stands (drop 1 q.jobs) (next_job q) refl refl s

  ended-stands : (p : Progress) (e : JobEnd) (read : List Content) → Sound p → Due p p.jobs e read → StandsWell (job_ended script host p e read)
  ended-stands p e read s due = on-stands (with_ending p e read) (stops p) (next-sound p e read s due)

  ended-plain : (p : Progress) (e : JobEnd) (read : List Content) → Sound p → IsPlain e → StandsWell (job_ended script host p e read)
  ended-plain p e read s plain = ended-stands p e read s (due-plain p p.jobs e read plain)

  -- An attempt of the job in hand ends
  module _ (p : Progress) (job : Job) (jobs : List Job) (first : p.jobs ≡ job ∷ jobs) (s : Sound p) (may : IsTriable job.task) (few : p.tries ≤ script.tries) where
    due-of : (e : JobEnd) (read : List Content) → IsMet (record { job = job; ended = e; contents = read; asked = p.asked; tries = p.tries; calls = p.calls }) e → Due p p.jobs e read
    due-of e read met = subst (λ (js : List Job). Due p js e read) (sym first) met

    quit-of : stops p ≡ true → job.quit ≡ Some p.asked
    quit-of stopped = quits job.quit p.asked (subst (λ (js : List Job). job_stops js p.asked ≡ true) first stopped)

    again : (later : Progress) → later.jobs ≡ job ∷ jobs → Sound later → later.tries + 1 ≤ script.tries → StandsWell (try_again script host later (task_of p.jobs))
    again later same t room = subst (λ (js : List Job). StandsWell (try_again script host later (task_of js))) (sym first) by where
      by : StandsWell (try_again script host later (Some job.task))
      by =
          tries (start_jobs script host (drop 1 later.jobs)) job jobs
          (λ q left fresh sound. start-stands (drop 1 later.jobs) q (left ∙ sym (ap (drop 1) same)) fresh sound)
          later same t room may

    more-stands : (later : Progress) → later.jobs ≡ job ∷ jobs → Sound later → later.tries + 1 ≤ script.tries → (stopped : Bool) → stops p ≡ stopped → StandsWell (once_more script host p later stopped)
    more-stands later same t room true e = ended-stands p (job_ends.Gave p.tries causes.Quit) [] s (due-of (job_ends.Gave p.tries causes.Quit) [] (inr (inl (refl, quit-of e)), refl, few))
    more-stands later same t room false e = again later same t room

    refused-stands : (cause : Cause) → Stands script host AtDraw job.task p.calls cause → (last : Bool) → ((p.tries == script.tries) || is_spent cause) ≡ last → StandsWell (attempt_refused script host p cause last)
    refused-stands cause stands true e =
        ended-stands p (job_ends.Gave p.tries cause) [] s
        (due-of (job_ends.Gave p.tries cause) [] (inl stands, refl, all-tries script.tries p.tries cause few e))
    refused-stands cause stands false e =
        more-stands p first s (room (p.tries == script.tries) (is_spent cause) refl e) (stops p) refl where
          room : (b c : Bool) → (p.tries == script.tries) ≡ b → (b || c) ≡ false → p.tries + 1 ≤ script.tries
          room true c same e = cc
          room false c same e = grind (arith, nat_tests)

    mended-stands : (last : Bool) → StandsWell (row_mended script host p last)
    mended-stands true = ended-plain (record p { gone = None }) job_ends.Rebuilt [] (record { met = s.met; aims = s.aims }) (λ x. tt)
    mended-stands false = more-stands (next_row p) first (record { met = s.met; aims = s.aims }) (let least = is.tries_least in omega arith) (stops p) refl

    part-met : (n : Number) (made : ℕ) (cause : Cause) → Stands script host AtDraw job.task p.calls cause → Due p p.jobs (job_ends.Part n made cause) []
    part-met n made cause stands =
        due-of (job_ends.Part n made cause) [] (inl stands)

    attempt-stands : (read : List Content) (ended : Ended) → FinishStands script host AtDraw job.task p.calls (record { ended = ended; contents = read }) → StandsWell (attempt_ended script host p read ended)
    attempt-stands read (ends.Read n) stands = ended-plain p (job_ends.Read n) read s (λ x. tt)
    attempt-stands read (ends.Wrote n) stands = ended-plain p (job_ends.Wrote n) [] s (λ x. tt)
    attempt-stands read (ends.Part n made cause) stands = ended-stands p (job_ends.Part n made cause) [] s (part-met n made cause stands)
    attempt-stands read (ends.Recovered n closed lost) stands = ended-plain p (job_ends.Recovered n closed lost) [] s (λ x. tt)
    attempt-stands read (ends.Refused cause) stands = refused-stands cause stands _ refl
    attempt-stands read ends.Mended stands = mended-stands _

    -- the host stops in it
    stop-met : stops p ≡ true → (stop : Ended) → IsStopCause stop → Due p p.jobs (quit_end p.tries stop) []
    stop-met stopped (ends.Read n) c = absurd c
    stop-met stopped (ends.Wrote n) c = absurd c
    stop-met stopped (ends.Part n made cause) c =
        subst (λ (k : Cause). Due p p.jobs (job_ends.Part n made k) []) (sym c) (due-of (job_ends.Part n made causes.Quit) [] (inr (inl (refl, quit-of stopped))))
    stop-met stopped (ends.Recovered n closed lost) c = due-plain p p.jobs (job_ends.Recovered n closed lost) [] (λ x. tt)
    stop-met stopped (ends.Refused cause) c = due-of (job_ends.Gave p.tries causes.Quit) [] (inr (inl (refl, quit-of stopped)), refl, few)
    stop-met stopped ends.Mended c = absurd c

    asks-stand : (steps : Steps Finish) (stop : Ended) → IsStopCause stop → Caused host AtDraw (FinishStands script host AtDraw job.task) p.calls steps → (stopped : Bool) → stops p ≡ stopped → StandsWell (asks_on p steps stop stopped)
    asks-stand steps stop c caused true e =
        let t = next-sound p (quit_end p.tries stop) [] s (stop-met e stop c) in
        record { sound = record { met = t.met; aims = t.aims }; work = tt }
    asks-stand steps stop c caused false e = record {
      sound = record { met = s.met; aims = s.aims };
      work = subst (λ (js : List Job). TriesJob p.tries p.calls js steps) (sym first) (record { may = may; few = few; caused = caused });
    }

    -- steps that are left
    left-stands : (steps : Steps Finish) → Caused host AtDraw (FinishStands script host AtDraw job.task) p.calls steps → StandsWell (steps_left script host p steps)
    left-stands (Asks e t c k) caused = asks-stand (Asks e t c k) t caused.0 caused (stops p) refl
    left-stands (Draws k) caused = record { sound = record { met = s.met; aims = s.aims }; work = tt }
    left-stands (Ends finish) caused = attempt-stands finish.contents finish.ended caused

  -- Calls
  module _ (call : Call) (fit : fits call.ask.what call.answer.reply ≡ true) where
    -- what is asked is answered by this call
    answers : (errand : Errand) → errand ≡ errand_of call → IsReply errand call
    answers errand same = record { asked = sym same; fit = subst (λ (e : Errand). fits e.request call.answer.reply ≡ true) (sym same) fit }

    -- where it draws then, this is known of what it has seen
    abbrev Known : Progress → Steps Finish → Type 0
    Known p steps =
        draws (behind steps call.answer.reply) ≡ true → IsNone (next_number host (sees p.seen call.answer.reply)) → AtDraw (call ∷ p.calls) (sees p.seen call.answer.reply)

    trying-told : (p : Progress) (js : List Job) → p.jobs ≡ js → (steps : Steps Finish) → Sound p → TriesJob p.tries p.calls js steps → next_errand steps ≡ Some (errand_of call) → Known p steps
        → StandsWell (work_told script host (call_counted p call) call.answer.reply (Trying steps))
    trying-told p [] first steps s f asked known = absurd f
    trying-told p (job ∷ jobs) first steps s f asked known =
        let after = told host (record { seen = p.seen; steps = steps }) call.answer.reply in
        left-stands (record (call_counted p call) { seen = after.seen }) job jobs first (record { met = s.met; aims = s.aims }) f.may f.few after.steps
        (settled-caused host AtDraw (FinishStands script host AtDraw job.task) (call ∷ p.calls) (sees p.seen call.answer.reply) (behind steps call.answer.reply) known
        (behind-caused host AtDraw (FinishStands script host AtDraw job.task) p.calls call steps f.caused (λ e next. answers e (the-same e next)) asked)) where
          the-same : (e : Errand) → next_errand steps ≡ Some e → e ≡ errand_of call
          the-same e next = let both : Some e ≡ Some (errand_of call) = sym next ∙ asked in cc

    work-stands : (p : Progress) (work : Work) → Sound p → Works p.tries p.calls p.jobs work → p.work ≡ work → work_errand work ≡ Some (errand_of call)
        → ((steps : Steps Finish) → p.work ≡ Trying steps → Known p steps)
        → StandsWell (work_told script host (call_counted p call) call.answer.reply work)
    work-stands p (Trying steps) s f same asked known = trying-told p p.jobs refl steps s f asked (known steps same)
    work-stands p (Losing bay) s f same asked known =
        ended-plain (record (call_counted p call) { gone = Some (record { bay = bay; fitted = false }) }) job_ends.Lost [] (record { met = s.met; aims = s.aims }) (λ x. tt)
    work-stands p (Fitting bay) s f same asked known =
        ended-plain (record (call_counted p call) { gone = Some (record { bay = bay; fitted = true }) }) job_ends.Fitted [] (record { met = s.met; aims = s.aims }) (λ x. tt)
    work-stands p Over s f same asked known = cc

    was-asked : (clock moment : ℕ) (o : Option Errand) → sent_by host clock moment o ≡ Some (record { bay = call.bay; ask = call.ask }) → o ≡ Some (errand_of call)
    was-asked clock moment None e = cc
    was-asked clock moment (Some errand) e =
        let sent : record { bay = errand.bay; ask = record { host = host; clock = clock; moment = moment; what = errand.request } } ≡ (let x : Sent = record { bay = call.bay; ask = call.ask } in x) = cc in
        let bays : errand.bay ≡ call.bay = ap (λ (x : Sent). x.bay) sent in
        let requests : errand.request ≡ call.ask.what = ap (λ (x : Sent). x.ask.what) sent in
        let one : errand ≡ record { bay = call.bay; request = errand.request } = ap (λ (b : BayNo). record { bay = b; request = errand.request }) bays in
        let other : record { bay = call.bay; request = errand.request } ≡ errand_of call = ap (λ (w : Request). record { bay = call.bay; request = w }) requests in
        ap (λ (x : Errand). Some x) (one ∙ other)

  -- a draw in this history
  at-draw : (earlier later : List Call) (call : Call) (fit : fits call.ask.what call.answer.reply ≡ true) → history ≡ later ++ call ∷ earlier
      → (steps : Steps Finish) → (progress_at script host earlier).work ≡ Trying steps → Known call fit (progress_at script host earlier) steps
  at-draw earlier later call fit whole steps works d none = (subst (Sometime Is) (sym whole) (sometime-in Is later (call ∷ earlier) (refl, refl, steps, works, d)), none) where
    p : Progress
    p = progress_at script host earlier

    Is : List Call → Type 0
    Is now = DrawsAfter script host (sees p.seen call.answer.reply) now (call ∷ p.calls)

  call-stands : (earlier later : List Call) (call : Call) → history ≡ later ++ call ∷ earlier → IsNext script earlier call → (own : Bool) → (call.ask.host.0 == host.0) ≡ own
      → StandsWell (progress_at script host earlier) → StandsWell (if_taken script host (progress_at script host earlier) call own)
  call-stands earlier later call whole next true at w =
      let p : Progress = progress_at script host earlier in
      let sent : Sent = record { bay = call.bay; ask = call.ask } in
      let asked : asks host p call.ask.moment ≡ Some sent =
      subst (λ (h : HostNo). asks h (progress_at script h earlier) call.ask.moment ≡ Some sent) (same-host call.ask.host host at) next.asked in
      let ruled = ap (λ (c : Call). fits call.ask.what c.answer.reply) next.replied in
      let fit : fits call.ask.what call.answer.reply ≡ true = ruled ∙ replies_fit_lem (bay_at script call.bay earlier) call.ask (is_fault call.answer.reply) in
      work-stands call fit p p.work w.sound w.work refl (was-asked call fit p.clock call.ask.moment (work_errand p.work) asked) (at-draw earlier later call fit whole)
  call-stands earlier later call whole next false at w = w

  history-stands : (now later : List Call) → history ≡ later ++ now → IsHistory script now → StandsWell (progress_at script host now)
  history-stands [] later whole h = start-stands (jobs_of script host) (before_start script host) refl refl (record { met = tt; aims = script-aims script host is })
  history-stands (call ∷ earlier) later whole h =
      call-stands earlier later call whole h.1 (call.ask.host.0 == host.0) refl
      (history-stands earlier (later ++ call ∷ []) (whole ∙ sym (append_assoc later (call ∷ []) earlier)) h.0)

  -- what stands behind a result is its cause
  spent-in : (e : Ending) (seen : Number) → Sometime (λ made. AtDraw made seen) e.calls → IsCauseIn script history host e (causes.Spent seen)
  spent-in e seen h =
      let both = sometime-both (λ made. Sometime (λ now. DrawsAfter script host seen now made) history) (IsNone (next_number host seen)) e.calls h in (
        both.1,
        sometime-map (λ now. Sometime (DrawsAfter script host seen now) e.calls) (IsDraw script host e seen) (λ now d. inl d) history
            (sometime-swap (λ made now. DrawsAfter script host seen now made) e.calls history both.0),
      )

  cause-in : (e : Ending) (cause : Cause) → IsFounded e cause
      → ((seen : Number) → spent_in cause ≡ Some seen → e.calls ≡ [] → IsNone (next_number host seen) × Sometime (IsIdDraw script host e seen) history)
      → IsCauseIn script history host e cause
  cause-in e cause (inl s) drawn = stands-in script history host AtDraw e (spent-in e) cause s
  cause-in e cause (inr (inl quit)) drawn = subst (IsCauseIn script history host e) (sym quit.0) quit.1
  cause-in e cause (inr (inr spent)) drawn =
      let id = drawn spent.0 (ap spent_in spent.1) spent.2 in
      subst (IsCauseIn script history host e) (sym spent.1)
      (id.0, sometime-map (IsIdDraw script host e spent.0) (IsDraw script host e spent.0) (λ now d. inr (spent.2, d.0, d.1)) history id.1)

  ending-met : (e : Ending) (ended : JobEnd) → IsMet e ended
      → ((seen : Number) → spent_of ended ≡ Some seen → e.calls ≡ [] → IsNone (next_number host seen) × Sometime (IsIdDraw script host e seen) history)
      → MeetsCause script history host e ended
  ending-met e (job_ends.Part n made cause) met drawn = cause-in e cause met drawn
  ending-met e (job_ends.Gave n cause) met drawn = (cause-in e cause met.0 drawn, met.1, met.2)
  ending-met e (job_ends.Read n) met drawn = tt
  ending-met e (job_ends.Wrote n) met drawn = tt
  ending-met e (job_ends.Recovered n closed lost) met drawn = tt
  ending-met e job_ends.Lost met drawn = tt
  ending-met e job_ends.Fitted met drawn = tt
  ending-met e job_ends.Rebuilt met drawn = tt
  ending-met e (job_ends.StillMissing bay) met drawn = tt
  ending-met e (job_ends.NotLost bay) met drawn = tt
  ending-met e (job_ends.NotFitted bay) met drawn = tt
  ending-met e job_ends.NoObject met drawn = tt
  ending-met e (job_ends.PastEnd blocks) met drawn = tt
  ending-met e (job_ends.TooManyRows rows) met drawn = tt

  all-met : (es : List Ending) → AllByRecursion Met es → AllByRecursion (IsIdDrawn script host history) es → AllByRecursion (λ (e : Ending). MeetsCause script history host e e.ended) es
  all-met [] met drawn = tt
  all-met (e ∷ es) met drawn = (ending-met e e.ended met.0 drawn.0, all-met es met.1 drawn.1)

  pub causes-met : IsHistory script history → AllByRecursion (λ (e : Ending). MeetsCause script history host e e.ended) (endings_at script history host)
  causes-met along = all-met (endings_at script history host) (history-stands history [] refl along).sound.met (ids-are-drawn script host history)

pub causes_are_met : CausesAreMet
causes_are_met script history is along host = causes-met script is host history along
