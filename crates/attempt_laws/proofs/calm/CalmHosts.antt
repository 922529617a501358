-- A host of a calm script, while it goes through its jobs: what its attempt in hand was granted stays noted until it puts
-- it, and no job of it ends as a part.
use Rattle.std.proofs.Common.{◌≡◌, ◌⊎◌, inl, inr, refl, sym, ap, subst, ◌∙◌, ℕ, ◌+◌, ◌<◌, ◌≤◌, ◌%◌, ◌==◌, ◌||◌, Bool, true, false, List, [], ◌∷◌, drop, Option, Some, None, IsSome, Result, Ok, Err, arith}
use Rattle.std.specs.List.{AllByRecursion}
use Rattle.std.proofs.lemmas.Bool.Decides.{nat_tests}
use Rattle.raid_base.specs.declared.numbers.BayNo.{BayNo}
use Rattle.raid_base.specs.declared.numbers.HostNo.{HostNo}
use Rattle.raid_base.specs.declared.numbers.RowNo.{RowNo}
use Rattle.raid_base.specs.declared.numbers.Number.{Number}
use Rattle.raid_base.specs.declared.numbers.Spent.{Spent}
use Rattle.raid_base.specs.declared.cells.Content.{Content}
use Rattle.raid_base.specs.declared.cells.Cell.{Cell}
use Rattle.raid_base.specs.declared.messages.Call.{Call}
use Rattle.raid_base.specs.declared.messages.Errand.{Errand}
use Rattle.raid_base.specs.declared.messages.Grant.{Grant}
use Rattle.raid_base.specs.declared.messages.How.{How}
use Rattle.raid_base.specs.declared.messages.How.TheVariants.{Plain}
use Rattle.raid_base.specs.declared.messages.Reply.TheVariants as replies
use Rattle.raid_base.specs.declared.messages.Request.{Request}
use Rattle.raid_base.specs.declared.messages.Request.TheVariants.{Share, Claim, Confirm, Put, Release, Lose, Fit}
use Rattle.raid_base.specs.declared.jobs.Job.{Job}
use Rattle.raid_base.specs.declared.jobs.Task.{Task}
use Rattle.raid_base.specs.declared.jobs.Task.TheVariants as tasks
use Rattle.raid_base.specs.declared.jobs.RowPart.{RowPart}
use Rattle.raid_base.specs.declared.jobs.PartsFault.{PartsFault}
use Rattle.raid_base.specs.declared.jobs.PartsFault.TheVariants as faults
use Rattle.raid_base.specs.declared.jobs.Cause.{Cause}
use Rattle.raid_base.specs.declared.jobs.Cause.TheVariants as causes
use Rattle.raid_base.specs.declared.jobs.Ended.{Ended}
use Rattle.raid_base.specs.declared.jobs.Ended.TheVariants as ends
use Rattle.raid_base.specs.declared.jobs.JobEnd.{JobEnd}
use Rattle.raid_base.specs.declared.jobs.JobEnd.TheVariants as job_ends
use Rattle.raid_base.specs.Numbers.{draw, seen_drawn, sees}
use Rattle.raid_base.specs.Replies.{grant_of}
use Rattle.raid_base.specs.Steps.{Steps, Asks, Draws, Ends, settled, told, behind, next_errand, errand_of}
use Rattle.slot_rules.specs.Slots.{Slot}
use Rattle.slot_rules.specs.Serving.{row_of}
use Rattle.attempts.specs.Taking.{Finish}
use Rattle.attempts.specs.Phases.{IsIn, Past, begins, grants, after, after_asking, after_number}
use Rattle.attempts.specs.Phases as phases
use Rattle.attempts.proofs.NumberingLemmas.{draws-above}
use Rattle.attempts.proofs.RoomLemmas.{all-append}
use Rattle.script_text.specs.Script.{Script, parts_of}
use Rattle.script_text.specs.Ranges.{IsScript, IsTask}
use Rattle.histories.specs.declared.operator.Gone.{Gone}
use Rattle.histories.specs.Operator.{is_gone}
use Rattle.histories.specs.Causes.{IsReadOrWrite}
use Rattle.histories.specs.Progress.{Ending, Work, Trying, Losing, Fitting, Over, Progress, work_errand, endings_of, with_ending, next_job, attempt, try_with, one_more, try_task, parts_end, try_parts, fit_job, rebuild_job, start_task, start_jobs, stops_at, job_stops, stops, go_on, job_ended, task_of, try_again, once_more, is_spent, attempt_refused, next_row, row_mended, attempt_ended, asks_on, steps_left, work_told, call_counted}
use Rattle.attempt_laws.specs.Calm.{IsCalmTask, IsCalmJob}
use Rattle.attempt_laws.proofs.calm.CalmTrees.{IsPutDone, IsNoPart}
use Rattle.attempt_laws.proofs.calm.CalmSlots.{IsNoted, Spares}
use Rattle.attempt_laws.proofs.calm.CalmSteps.{on, MayCalm, Calmly, Told, told-calm, Begun, attempt-begins}

-- a result is no part
abbrev pub IsWhole : JobEnd → Type 0
IsWhole (job_ends.Part n made cause) = ⊥
IsWhole _ = Unit {0}

-- it is no part, and its host was not to stop
abbrev pub EndsWhole : Ending → Type 0
EndsWhole e = (e.job.quit ≡ None) × IsWhole e.ended

-- a request of a calm host
abbrev pub Tame : HostNo → Request → Type 0
Tame host (Share row by want) = Unit {0}
Tame host (Claim row by how mask want) = how ≡ Plain
Tame host (Confirm row by want) = Unit {0}
Tame host (Put row by n cell) = by.0 % 16 ≡ host.0
Tame host (Release row by n) = by.0 % 16 ≡ host.0
Tame host Lose = ⊥
Tame host Fit = ⊥

parts-whole : (fault : PartsFault) → IsWhole (parts_end fault)
parts-whole faults.NoObject = tt
parts-whole (faults.PastEnd blocks) = tt
parts-whole (faults.TooManyRows rows) = tt

no-stop : (quit : Option ℕ) (asked : ℕ) → quit ≡ None → stops_at quit asked ≡ false
no-stop None asked none = refl
no-stop (Some k) asked none = cc

module _ (script : Script) (is : IsScript script) (host : HostNo) (few : host.0 < 16) where
  abbrev pub IsFine : Job → Type 0
  IsFine job = IsCalmJob job × IsTask script host job.task

  pub record Sound (p : Progress) : Type 0 where
    pub jobs : AllByRecursion IsFine p.jobs
    pub gone : p.gone ≡ None
    pub whole : AllByRecursion EndsWhole p.endings

  -- over these slots
  module _ (S : BayNo → RowNo → Slot) where
    -- what was granted is noted until it is put
    abbrev pub Stands : Number → Past → Type 0
    Stands id past = past.phase ≤ 2 → (at : BayNo) (row : RowNo) → row.0 < script.rows → IsIn (on at row) past.granted → (IsIn (on at row) past.put → ⊥) → IsNoted id (S at row)

    pub record Hand (steps : Steps Finish) : Type 0 where
      pub id : Number
      pub own : id.0 % 16 ≡ host.0
      pub past : Past
      pub calm : Calmly id past steps
      pub stands : Stands id past

    abbrev pub Tries : List Job → Steps Finish → Type 0
    Tries [] steps = ⊥
    Tries (job ∷ jobs) steps = IsReadOrWrite job.task × Hand steps

    abbrev pub Works : List Job → Work → Type 0
    Works jobs (Trying steps) = Tries jobs steps
    Works jobs (Losing bay) = ⊥
    Works jobs (Fitting bay) = ⊥
    Works jobs Over = Unit {0}

    pub record Calm (p : Progress) : Type 0 where
      pub sound : Sound p
      pub work : Works p.jobs p.work

    -- a number is drawn
    drawn-stands : (id : Number) (past : Past) (d : Result Number Spent) → past.phase ≤ 1 → Stands id past → Stands id (after_number past d)
    drawn-stands id past (Ok n) early s = λ le at row below i free. s (omega (arith, early)) at row below i free
    drawn-stands id past (Err spent) early s = λ le. absurd (omega (arith, le))

    settled-hand : (id : Number) → id.0 % 16 ≡ host.0 → (seen : Number) (past : Past) (s : Steps Finish) → Calmly id past s → Stands id past → Hand (settled host seen s).steps
    settled-hand id own seen past (Asks e t c k) h s = record { id = id; own = own; past = past; calm = h; stands = s }
    settled-hand id own seen past (Draws k) h s =
        settled-hand id own (seen_drawn seen (draw host seen)) (after_number past (draw host seen)) (k (draw host seen)) (h.1 (draw host seen)) (drawn-stands id past (draw host seen) h.0 s)
    settled-hand id own seen past (Ends f) h s = record { id = id; own = own; past = past; calm = h; stands = s }

    -- a job has a result
    one-ended : (p : Progress) (e : JobEnd) (read : List Content) (js : List Job) → AllByRecursion IsFine js → IsWhole e → AllByRecursion EndsWhole (endings_of js e read p)
    one-ended p e read [] fine w = tt
    one-ended p e read (job ∷ jobs) fine w = ((((fine.0).0).1, w), tt)

    rest-fine : (js : List Job) → AllByRecursion IsFine js → AllByRecursion IsFine (drop 1 js)
    rest-fine [] h = tt
    rest-fine (job ∷ jobs) h = h.1

    next-sound : (p : Progress) (e : JobEnd) (read : List Content) → Sound p → IsWhole e → Sound (next_job (with_ending p e read))
    next-sound p e read s w = record {
      jobs = rest-fine p.jobs s.jobs;
      gone = s.gone;
      whole = all-append EndsWhole p.endings (endings_of p.jobs e read p) s.whole (one-ended p e read p.jobs s.jobs w);
    }

    abbrev GoesOn : List Job → (Progress → Progress) → Type 0
    GoesOn jobs rest = (q : Progress) → q.jobs ≡ jobs → Sound q → Calm (rest q)

    module _ (rest : Progress → Progress) (job : Job) (jobs : List Job) (goes_on : GoesOn jobs rest) (p : Progress) (first : p.jobs ≡ job ∷ jobs) (s : Sound p) where
      fine : IsFine job
      fine = (subst (AllByRecursion IsFine) first s.jobs).0

      skips : (q : Progress) (e : JobEnd) → q.jobs ≡ job ∷ jobs → Sound q → IsWhole e → Calm (rest (next_job (with_ending q e [])))
      skips q e same sound w = goes_on (next_job (with_ending q e [])) (ap (drop 1) same) (next-sound q e [] sound w)

      tries-with : IsReadOrWrite job.task → (d : Result Number Spent) → draw host p.seen ≡ d → Calm (try_with script host job.task rest (one_more p) d)
      tries-with plain (Ok id) e =
          let a = attempt script host id p.row job.task in
          let b : Begun id a = attempt-begins script is host id p.row job.task plain fine.1 in
          record {
            sound = record { jobs = s.jobs; gone = s.gone; whole = s.whole };
            work = subst (λ (js : List Job). Tries js (settled host id a).steps) (sym first)
                (plain, settled-hand id (draws-above host p.seen id few e).own id (begins b.number) a b.calm (λ le at row below i free. absurd i));
          }
      tries-with plain (Err spent) e = skips (one_more p) (job_ends.Gave (p.tries + 1) (causes.Spent spent.seen)) first (record { jobs = s.jobs; gone = s.gone; whole = s.whole }) tt

      pub tries : IsReadOrWrite job.task → Calm (try_task script host job.task rest p)
      tries plain = tries-with plain (draw host p.seen) refl

      tries-as : (task : Task) → job.task ≡ task → IsReadOrWrite task → Calm (try_task script host task rest p)
      tries-as task same plain = subst (λ (t : Task). Calm (try_task script host t rest p)) same (tries (subst IsReadOrWrite (sym same) plain))

      parts-begin : (task : Task) → job.task ≡ task → IsReadOrWrite task → (r : Result (List RowPart) PartsFault) → Calm (try_parts script host task rest p r)
      parts-begin task same plain (Ok parts) = tries-as task same plain
      parts-begin task same plain (Err fault) = skips p (parts_end fault) first s (parts-whole fault)

      starts-as : (task : Task) → job.task ≡ task → IsCalmTask task → Calm (start_task script host rest p task)
      starts-as (tasks.Read object begin count) same calm = parts-begin (tasks.Read object begin count) same tt (parts_of script object begin count)
      starts-as (tasks.Write object begin from count) same calm = parts-begin (tasks.Write object begin from count) same tt (parts_of script object begin count)
      starts-as (tasks.Recover row) same calm = absurd calm
      starts-as (tasks.Lose bay) same calm = absurd calm
      starts-as (tasks.Fit bay) same calm =
          subst (λ (g : Option Gone). Calm (fit_job rest p bay (is_gone bay false g))) (sym s.gone) (skips p (job_ends.NotLost bay) first s tt)
      starts-as (tasks.Rebuild bay) same calm =
          subst (λ (g : Option Gone). Calm (rebuild_job script host rest p bay (is_gone bay true g))) (sym s.gone) (skips p (job_ends.NotFitted bay) first s tt)

      starts : Calm (start_task script host rest p job.task)
      starts = starts-as job.task refl (fine.0).0

    pub start-calm : (jobs : List Job) → GoesOn jobs (start_jobs script host jobs)
    start-calm [] p none s = record { sound = record { jobs = s.jobs; gone = s.gone; whole = s.whole }; work = tt }
    start-calm (job ∷ jobs) p first s = starts (start_jobs script host jobs) job jobs (start-calm jobs) p first s

    -- An attempt of the job in hand ends
    module _ (p : Progress) (job : Job) (jobs : List Job) (first : p.jobs ≡ job ∷ jobs) (s : Sound p) (plain : IsReadOrWrite job.task) where
      not-stopped : stops p ≡ false
      not-stopped =
          let mine : IsFine job = (subst (AllByRecursion IsFine) first s.jobs).0 in
          subst (λ (js : List Job). job_stops js p.asked ≡ false) (sym first) (no-stop job.quit p.asked (mine.0).1)

      on-calm : (q : Progress) (stopped : Bool) → Sound (next_job q) → Calm (go_on script host q stopped)
      on-calm q true t = record { sound = record { jobs = t.jobs; gone = t.gone; whole = t.whole }; work = tt }
      on-calm q false t = start-calm (drop 1 q.jobs) (next_job q) refl t

      ended-calm : (e : JobEnd) (read : List Content) → IsWhole e → Calm (job_ended script host p e read)
      ended-calm e read w = on-calm (with_ending p e read) (stops p) (next-sound p e read s w)

      again-calm : (later : Progress) → later.jobs ≡ job ∷ jobs → Sound later → (o : Option Task) → o ≡ Some job.task → Calm (try_again script host later o)
      again-calm later same t None e = absurd (cc)
      again-calm later same t (Some task) e =
          let is_task : task ≡ job.task = cc in
          subst (λ (x : Task). Calm (try_task script host x (start_jobs script host (drop 1 later.jobs)) later)) (sym is_task)
          (tries (start_jobs script host (drop 1 later.jobs)) job jobs (λ q left sound. start-calm (drop 1 later.jobs) q (left ∙ sym (ap (drop 1) same)) sound) later same t plain)

      more-calm : (later : Progress) → later.jobs ≡ job ∷ jobs → Sound later → (stopped : Bool) → Calm (once_more script host p later stopped)
      more-calm later same t true = ended-calm (job_ends.Gave p.tries causes.Quit) [] tt
      more-calm later same t false = again-calm later same t (task_of p.jobs) (ap (λ (js : List Job). task_of js) first)

      refused-calm : (cause : Cause) (last : Bool) → Calm (attempt_refused script host p cause last)
      refused-calm cause true = ended-calm (job_ends.Gave p.tries cause) [] tt
      refused-calm cause false = more-calm p first s (stops p)

      mended-calm : (last : Bool) → Calm (row_mended script host p last)
      mended-calm true = on-calm (with_ending (record p { gone = None }) job_ends.Rebuilt []) (stops p) (next-sound (record p { gone = None }) job_ends.Rebuilt [] (record { jobs = s.jobs; gone = refl; whole = s.whole }) tt)
      mended-calm false = more-calm (next_row p) first (record { jobs = s.jobs; gone = s.gone; whole = s.whole }) (stops p)

      attempt-calm : (read : List Content) (ended : Ended) → IsNoPart ended → Calm (attempt_ended script host p read ended)
      attempt-calm read (ends.Read n) w = ended-calm (job_ends.Read n) read tt
      attempt-calm read (ends.Wrote n) w = ended-calm (job_ends.Wrote n) [] tt
      attempt-calm read (ends.Part n made cause) w = absurd w
      attempt-calm read (ends.Recovered n closed lost) w = ended-calm (job_ends.Recovered n closed lost) [] tt
      attempt-calm read (ends.Refused cause) w = refused-calm cause ((p.tries == script.tries) || is_spent cause)
      attempt-calm read ends.Mended w = mended-calm (p.row + 1 == script.rows)

      -- steps that are left
      left-calm : (steps : Steps Finish) → Hand steps → Calm (steps_left script host p steps)
      left-calm (Asks e t c k) h =
          subst (λ (b : Bool). Calm (asks_on p (Asks e t c k) t b)) (sym not-stopped)
          (record { sound = record { jobs = s.jobs; gone = s.gone; whole = s.whole }; work = subst (λ (js : List Job). Tries js (Asks e t c k)) (sym first) (plain, h) })
      left-calm (Draws k) h = record { sound = record { jobs = s.jobs; gone = s.gone; whole = s.whole }; work = tt }
      left-calm (Ends f) h = attempt-calm f.contents f.ended h.calm

    -- its request
    may-tame : (id : Number) → id.0 % 16 ≡ host.0 → (past : Past) (bay : BayNo) (what : Request) → MayCalm id past bay what → Tame host what
    may-tame id own past bay (Share row by want) may = tt
    may-tame id own past bay (Claim row by how mask want) may = may.1
    may-tame id own past bay (Confirm row by want) may = tt
    may-tame id own past bay (Put row by n cell) may = ap (λ (x : Number). x.0 % 16) may.0 ∙ own
    may-tame id own past bay (Release row by n) may = ap (λ (x : Number). x.0 % 16) may ∙ own
    may-tame id own past bay Lose may = may
    may-tame id own past bay Fit may = may

    pub asks-tame : (jobs : List Job) (work : Work) (e : Errand) → Works jobs work → work_errand work ≡ Some e → Tame host e.request
    asks-tame [] (Trying steps) e h asked = absurd h
    asks-tame (job ∷ jobs) (Trying steps) e h asked =
        let t : Told (h.1).id (h.1).past steps e replies.Done = told-calm (h.1).id (h.1).past steps e replies.Done (h.1).calm asked in
        may-tame (h.1).id (h.1).own (h.1).past e.bay e.request t.may
    asks-tame jobs (Losing bay) e h asked = absurd h
    asks-tame jobs (Fitting bay) e h asked = absurd h
    asks-tame jobs Over e h asked = absurd (cc)

  -- A call, from these slots to those
  module _ (S T : BayNo → RowNo → Slot) (call : Call) where
    pub record Moves : Type 0 where
      pub below : (row : RowNo) → row_of call.ask.what ≡ Some row → row.0 < script.rows
      pub done : (row : RowNo) (id n : Number) (cell : Cell) → call.ask.what ≡ Put row id n cell → IsNoted id (S call.bay row) → call.answer.reply ≡ replies.Done
      pub kept : (id : Number) (at : BayNo) (row : RowNo) → row.0 < script.rows → (call.bay ≡ at → row_of call.ask.what ≡ Some row → Spares id call.ask.what) → IsNoted id (S at row) → IsNoted id (T at row)
      pub claimed : (row : RowNo) (id : Number) (mask : ℕ) (want : Bool) → row.0 < script.rows → call.ask.what ≡ Claim row id Plain mask want → IsSome (grant_of call.answer.reply) → IsNoted id (T call.bay row)

    module _ (m : Moves) where
      -- another host's
      spares-other : (id : Number) (whose : HostNo) → id.0 % 16 ≡ host.0 → (whose ≡ host → ⊥) → (what : Request) → Tame whose what → Spares id what
      spares-other id whose own other (Share row by want) t = tt
      spares-other id whose own other (Claim row by how mask want) t = t
      spares-other id whose own other (Confirm row by want) t = tt
      spares-other id whose own other (Put row by n cell) t = by_apart (by.0 == id.0) refl
        where
          by_apart : (b : Bool) → (by.0 == id.0) ≡ b → b ≡ false
          by_apart false e = refl
          by_apart true e =
              let same : by.0 ≡ id.0 = grind (arith, nat_tests) in
              absurd (other (ap (λ (k : ℕ). let h : HostNo = record { 0 = k } in h) (sym t ∙ ap (λ (k : ℕ). k % 16) same ∙ own)))
      spares-other id whose own other (Release row by n) t = by_apart (by.0 == id.0) refl
        where
          by_apart : (b : Bool) → (by.0 == id.0) ≡ b → b ≡ false
          by_apart false e = refl
          by_apart true e =
              let same : by.0 ≡ id.0 = grind (arith, nat_tests) in
              absurd (other (ap (λ (k : ℕ). let h : HostNo = record { 0 = k } in h) (sym t ∙ ap (λ (k : ℕ). k % 16) same ∙ own)))
      spares-other id whose own other Lose t = t
      spares-other id whose own other Fit t = t

      module _ (other : call.ask.host ≡ host → ⊥) (tame : Tame call.ask.host call.ask.what) where
        hand-be : (steps : Steps Finish) → Hand S steps → Hand T steps
        hand-be steps h = record {
          id = h.id;
          own = h.own;
          past = h.past;
          calm = h.calm;
          stands = λ le at row below i free. m.kept h.id at row below (λ same is. spares-other h.id call.ask.host h.own other call.ask.what tame) (h.stands le at row below i free);
        }

        works-be : (jobs : List Job) (work : Work) → Works S jobs work → Works T jobs work
        works-be [] (Trying steps) w = w
        works-be (job ∷ jobs) (Trying steps) w = (w.0, hand-be steps w.1)
        works-be jobs (Losing bay) w = w
        works-be jobs (Fitting bay) w = w
        works-be jobs Over w = w

        pub calm-be : (p : Progress) → Calm S p → Calm T p
        calm-be p c = record { sound = record { jobs = c.sound.jobs; gone = c.sound.gone; whole = c.sound.whole }; work = works-be p.jobs p.work c.work }

      -- the host's own
      put-done : (id : Number) (past : Past) (what : Request) → call.ask.what ≡ what → MayCalm id past call.bay what → Stands S id past → IsPutDone what call.answer.reply
      put-done id past (Share row by want) same may s = tt
      put-done id past (Claim row by how mask want) same may s = tt
      put-done id past (Confirm row by want) same may s = tt
      put-done id past (Put row by n cell) same may s =
          m.done row by n cell same
          (subst (λ (x : Number). IsNoted x (S call.bay row)) (sym may.0)
          (s may.1 call.bay row (m.below row (ap (λ (w : Request). row_of w) same)) may.2 may.3))
      put-done id past (Release row by n) same may s = tt
      put-done id past Lose same may s = tt
      put-done id past Fit same may s = tt

      kept-by : (id : Number) (past : Past) → Stands S id past → past.phase ≤ 2 → (at : BayNo) (row : RowNo) → row.0 < script.rows → (call.bay ≡ at → row_of call.ask.what ≡ Some row → Spares id call.ask.what) →
          IsIn (on at row) past.granted → (IsIn (on at row) past.put → ⊥) → IsNoted id (T at row)
      kept-by id past s le at row below spares i free = m.kept id at row below spares (s le at row below i free)

      spares-as : (id : Number) (what : Request) → call.ask.what ≡ what → Spares id what → Spares id call.ask.what
      spares-as id what same sp = subst (λ (w : Request). Spares id w) (sym same) sp

      new-in : (slot new : phases.Slot) (g : Option Grant) (slots : List phases.Slot) → IsIn slot (grants g new slots) → (IsSome g × (new ≡ slot)) ⊎ IsIn slot slots
      new-in slot new None slots i = inr i
      new-in slot new (Some grant) slots (inl same) = inl (refl, same)
      new-in slot new (Some grant) slots (inr i) = inr i

      same-place : (at bay : BayNo) (row there : RowNo) → on bay there ≡ on at row → (bay ≡ at) × (there ≡ row)
      same-place at bay row there e = (ap (λ (x : phases.Slot). x.bay) e, ap (λ (x : phases.Slot). x.row) e)

      stands-told : (id : Number) (past : Past) (what : Request) → call.ask.what ≡ what → MayCalm id past call.bay what → Stands S id past → Stands T id (after_asking past call.bay what call.answer.reply)
      stands-told id past (Share row' by want) same may s = λ le at row below i free. kept-by id past s le at row below (λ e f. spares-as id (Share row' by want) same tt) i free
      stands-told id past (Claim row' by how mask want) same may s = λ le at row below i free. go le at row below free (new-in (on at row) (on call.bay row') (grant_of call.answer.reply) past.granted i)
        where
          asked : call.ask.what ≡ Claim row' id Plain mask want
          asked = same ∙ ap (λ (x : Number). Claim row' x how mask want) may.0 ∙ ap (λ (h : How). Claim row' id h mask want) may.1

          go : past.phase ≤ 2 → (at : BayNo) (row : RowNo) → row.0 < script.rows → (IsIn (on at row) past.put → ⊥) → (IsSome (grant_of call.answer.reply) × (on call.bay row' ≡ on at row)) ⊎ IsIn (on at row) past.granted → IsNoted id (T at row)
          go le at row below free (inl n) =
              let place = same-place at call.bay row row' n.1 in
              subst (λ (b : BayNo). IsNoted id (T b row)) place.0
              (subst (λ (w : RowNo). IsNoted id (T call.bay w)) place.1
              (m.claimed row' id mask want (m.below row' (ap (λ (w : Request). row_of w) same)) asked n.0))
          go le at row below free (inr i) = kept-by id past s le at row below (λ e f. spares-as id (Claim row' by how mask want) same may.1) i free
      stands-told id past (Confirm row' by want) same may s = λ le at row below i free. kept-by id past s (omega (arith, may)) at row below (λ e f. spares-as id (Confirm row' by want) same tt) i free
      stands-told id past (Put row' by n cell) same may s = λ le at row below i free.
          kept-by id past s may.1 at row below (λ e f. absurd (free (inl (here at row e (sym f ∙ ap (λ (w : Request). row_of w) same))))) i (λ j. free (inr j))
        where
          here : (at : BayNo) (row : RowNo) → call.bay ≡ at → Some row ≡ Some row' → on call.bay row' ≡ on at row
          here at row e f = let there : row' ≡ row = cc in ap (λ (b : BayNo). on b row') e ∙ ap (λ (w : RowNo). on at w) there
      stands-told id past (Release row' by n) same may s = λ le. absurd (omega (arith, le))
      stands-told id past Lose same may s = absurd may
      stands-told id past Fit same may s = absurd may

      tells-calm : (p : Progress) (js : List Job) → p.jobs ≡ js → (steps : Steps Finish) → Sound p → Tries S js steps → next_errand steps ≡ Some (errand_of call) →
          Calm T (work_told script host (call_counted p call) call.answer.reply (Trying steps))
      tells-calm p [] first steps s h asked = absurd h
      tells-calm p (job ∷ jobs) first steps s h asked =
          let hand = h.1 in
          let t : Told hand.id hand.past steps (errand_of call) call.answer.reply = told-calm hand.id hand.past steps (errand_of call) call.answer.reply hand.calm asked in
          let seen = sees p.seen call.answer.reply in
          left-calm T (record (call_counted p call) { seen = (told host (record { seen = p.seen; steps = steps }) call.answer.reply).seen }) job jobs first
          (record { jobs = s.jobs; gone = s.gone; whole = s.whole }) h.0 (told host (record { seen = p.seen; steps = steps }) call.answer.reply).steps
          (settled-hand T hand.id hand.own seen (after hand.past (errand_of call) call.answer.reply) (behind steps call.answer.reply)
          (t.calm (put-done hand.id hand.past call.ask.what refl t.may hand.stands)) (stands-told hand.id hand.past call.ask.what refl t.may hand.stands))

      pub work-calm : (p : Progress) (work : Work) → Sound p → Works S p.jobs work → work_errand work ≡ Some (errand_of call) → Calm T (work_told script host (call_counted p call) call.answer.reply work)
      work-calm p (Trying steps) s h asked = tells-calm p p.jobs refl steps s h asked
      work-calm p (Losing bay) s h asked = absurd h
      work-calm p (Fitting bay) s h asked = absurd h
      work-calm p Over s h asked = absurd (cc)
