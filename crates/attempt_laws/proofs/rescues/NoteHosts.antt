-- A host's recoveries while it goes through its jobs: what each that is over may still hold.
use Rattle.std.proofs.Common.{◌≡◌, ◌⊎◌, inl, inr, refl, sym, ap, subst, ◌∙◌, ℕ, ◌+◌, ◌<◌, ◌≤◌, ◌==◌, ◌||◌, Bool, true, false, if◌then◌else◌, List, [], ◌∷◌, ◌++◌, drop, Option, Some, None, Result, Ok, Err, arith}
use Rattle.std.specs.List.{AllByRecursion}
use Rattle.std.proofs.lemmas.Bool.Decides.{nat_tests}
use Rattle.raid_base.specs.declared.numbers.BayNo.{BayNo}
use Rattle.raid_base.specs.declared.numbers.HostNo.{HostNo}
use Rattle.raid_base.specs.declared.numbers.RowNo.{RowNo}
use Rattle.raid_base.specs.declared.numbers.Number.{Number}
use Rattle.raid_base.specs.declared.numbers.Spent.{Spent}
use Rattle.raid_base.specs.declared.cells.Content.{Content}
use Rattle.raid_base.specs.declared.messages.Call.{Call}
use Rattle.raid_base.specs.declared.messages.Errand.{Errand}
use Rattle.raid_base.specs.declared.messages.How.TheVariants.{Seize}
use Rattle.raid_base.specs.declared.messages.Reply.{Reply}
use Rattle.raid_base.specs.declared.messages.Request.{Request}
use Rattle.raid_base.specs.declared.messages.Request.TheVariants.{Share, Claim, Confirm, Put, Release, Lose, Fit}
use Rattle.raid_base.specs.declared.jobs.Job.{Job}
use Rattle.raid_base.specs.declared.jobs.Task.{Task}
use Rattle.raid_base.specs.declared.jobs.Task.TheVariants as tasks
use Rattle.raid_base.specs.declared.jobs.RowPart.{RowPart}
use Rattle.raid_base.specs.declared.jobs.PartsFault.{PartsFault}
use Rattle.raid_base.specs.declared.jobs.PartsFault.TheVariants as faults
use Rattle.raid_base.specs.declared.jobs.Cause.{Cause}
use Rattle.raid_base.specs.declared.jobs.Cause.TheVariants as causes
use Rattle.raid_base.specs.declared.jobs.Ended.{Ended}
use Rattle.raid_base.specs.declared.jobs.Ended.TheVariants as ends
use Rattle.raid_base.specs.declared.jobs.JobEnd.{JobEnd}
use Rattle.raid_base.specs.declared.jobs.JobEnd.TheVariants as job_ends
use Rattle.raid_base.specs.Fits.{fits}
use Rattle.raid_base.specs.Numbers.{draw, seen_drawn, sees}
use Rattle.raid_base.specs.Steps.{Steps, Asks, Draws, Ends, Standing, settled, draws, told, behind, next_errand, errand_of}
use Rattle.attempts.specs.declared.Rescue.{Rescue}
use Rattle.attempts.specs.Taking.{Finish}
use Rattle.attempts.specs.Recovery.{recover_steps}
use Rattle.attempts.specs.Returns.{Holding}
use Rattle.attempts.proofs.NumberingLemmas.{seen-covers}
use Rattle.script_text.specs.Script.{Script, parts_of}
use Rattle.script_text.specs.Ranges.{IsScript, IsTask}
use Rattle.histories.specs.declared.operator.Gone.{Gone}
use Rattle.histories.specs.Operator.{is_gone}
use Rattle.histories.specs.Calls.{Happened, id_of}
use Rattle.histories.specs.Leftovers.{HasId}
use Rattle.histories.specs.Progress.{Ending, Work, Trying, Losing, Fitting, Over, Progress, work_errand, endings_of, with_ending, next_job, attempt, try_with, one_more, try_task, parts_end, try_parts, lose_job, fit_job, rebuild_job, start_task, start_jobs, stops, go_on, job_ended, task_of, try_again, once_more, is_spent, attempt_refused, next_row, row_mended, attempt_ended, quit_end, asks_on, steps_left, work_told, call_counted}
use Rattle.attempt_laws.specs.Leftovers.{WasUnderWay, MayLeave, HasLeft, IsClosed, HasClosed}
use Rattle.attempt_laws.proofs.leftovers.UnderWay.{IsLed, IsWorkLed, led-on, under-way}
use Rattle.attempt_laws.proofs.leftovers.LeftLeaves.{draw-more, settled-more}
use Rattle.attempt_laws.proofs.rescues.RescueTrees.{IsUnclosed, held_of, IsOwnAsk, RescueEnd, Rescues, recoveries-rescue, settled-rescues, asks-rescue, behind-rescues}
use Rattle.attempt_laws.proofs.rescues.NoteTrees.{IsOtherAsk, Others, settled-others, asks-other, behind-others, read-others, write-others, mend-others}

-- the calls with this id
abbrev pub has : Number → Option Number → Bool
has x None = false
has x (Some id) = id.0 == x.0

abbrev pub with_id : Number → List Call → List Call
with_id x [] = []
with_id x (call ∷ calls) = if has x (id_of call.ask.what) then call ∷ with_id x calls else with_id x calls

-- it is a recovery's
abbrev pub Seizes : Number → Call → Type 0
Seizes x call = (row : RowNo) × (mask : ℕ) × (want : Bool) × (call.ask.what ≡ Claim row x Seize mask want)

abbrev pub IsRec : Number → List Call → Type 0
IsRec x calls = Happened (Seizes x) calls

pub same-id : (x y : Number) → (x.0 == y.0) ≡ true → x ≡ y
same-id x y e = let same : x.0 ≡ y.0 = grind (arith, nat_tests) in ap (λ (k : ℕ). let n : Number = record { 0 = k } in n) same

pub has-own : (x : Number) → has x (Some x) ≡ true
has-own x = grind (arith, nat_tests)

has-other : (x id : Number) → (x ≡ id → ⊥) → has x (Some id) ≡ false
has-other x id apart = by (id.0 == x.0) refl
  where
    by : (b : Bool) → (id.0 == x.0) ≡ b → b ≡ false
    by false e = refl
    by true e = absurd (apart (sym (same-id id x e)))

none-with : (x seen : Number) (calls : List Call) → ((y : Number) → HasId y calls → y.0 ≤ seen.0) → seen.0 < x.0 → with_id x calls ≡ []
none-with x seen [] low less = refl
none-with x seen (call ∷ calls) low less = by (id_of call.ask.what) refl (none-with x seen calls (λ y h. low y (inr h)) less)
  where
    by : (o : Option Number) → id_of call.ask.what ≡ o → with_id x calls ≡ [] → (if has x o then call ∷ with_id x calls else with_id x calls) ≡ []
    by None e rest = rest
    by (Some id) e rest = go (id.0 == x.0) refl
      where
        go : (b : Bool) → (id.0 == x.0) ≡ b → (if b then call ∷ with_id x calls else with_id x calls) ≡ []
        go false f = rest
        go true f = let h = low id (inl e) in let same : id.0 ≡ x.0 = ap (λ (n : Number). n.0) (same-id id x f) in absurd (omega (arith, h, less, same))

pub rec-with : (x : Number) (calls : List Call) → IsRec x calls → IsRec x (with_id x calls)
rec-with x [] h = h
rec-with x (call ∷ calls) h = by (has x (id_of call.ask.what)) refl h (λ i. rec-with x calls i)
  where
    by : (b : Bool) → has x (id_of call.ask.what) ≡ b → IsRec x (call ∷ calls) → (IsRec x calls → IsRec x (with_id x calls)) → IsRec x (if b then call ∷ with_id x calls else with_id x calls)
    by true e (inl s) more = inl s
    by true e (inr i) more = inr (more i)
    by false e (inl s) more = absurd (let bad : true ≡ false = sym (has-own x) ∙ ap (λ (w : Request). has x (id_of w)) (sym s.3) ∙ e in cc)
    by false e (inr i) more = more i

ids-same : (x id : Number) (calls : List Call) → AllByRecursion (λ (c : Call). id_of c.ask.what ≡ Some id) calls → HasId x calls → x ≡ id
ids-same x id [] all h = absurd h
ids-same x id (call ∷ calls) all (inl e) = let same : Some x ≡ Some id = sym e ∙ all.0 in cc
ids-same x id (call ∷ calls) all (inr h) = ids-same x id calls all.1 h

left-more : (script : Script) (host : HostNo) (x : Number) (es fs : List Ending) → HasLeft script host x es → HasLeft script host x (es ++ fs)
left-more script host x [] fs h = absurd h
left-more script host x (e ∷ es) fs (inl h) = inl h
left-more script host x (e ∷ es) fs (inr h) = inr (left-more script host x es fs h)

left-last : (script : Script) (host : HostNo) (x : Number) (es fs : List Ending) → HasLeft script host x fs → HasLeft script host x (es ++ fs)
left-last script host x [] fs h = h
left-last script host x (e ∷ es) fs h = inr (left-last script host x es fs h)

closed-split : (x : Number) (es : List Ending) (js : List Job) (e : JobEnd) (read : List Content) (p : Progress) → HasClosed x (es ++ endings_of js e read p) → HasClosed x es ⊎ (HasId x p.calls × IsClosed e)
closed-split x [] [] e read p h = inl h
closed-split x [] (job ∷ jobs) e read p (inl h) = inr h
closed-split x [] (job ∷ jobs) e read p (inr h) = absurd h
closed-split x (y ∷ ys) js e read p (inl h) = inl (inl h)
closed-split x (y ∷ ys) js e read p (inr h) = by (closed-split x ys js e read p h)
  where
    by : HasClosed x ys ⊎ (HasId x p.calls × IsClosed e) → HasClosed x (y ∷ ys) ⊎ (HasId x p.calls × IsClosed e)
    by (inl i) = inl (inr i)
    by (inr i) = inr i

parts-open : (fault : PartsFault) → IsClosed (parts_end fault) → ⊥
parts-open faults.NoObject c = c
parts-open (faults.PastEnd blocks) c = c
parts-open (faults.TooManyRows rows) c = c

module _ (script : Script) (is : IsScript script) (host : HostNo) where
  abbrev pub rescue : Number → RowNo → Rescue
  rescue id row = record { n = script.n; host = host; id = id; row = row }

  abbrev pub IsOwn : Number → RowNo → Call → Type 0
  IsOwn id row c = IsOwnAsk (rescue id row) c.bay c.ask.what × (fits c.ask.what c.answer.reply ≡ true)

  -- a recovery that is over, and was not ended by its host's stop
  pub record Settled (x : Number) (calls : List Call) (endings : List Ending) : Type 0 where
    pub row : RowNo
    pub own : AllByRecursion (IsOwn x row) calls
    pub kept : AllByRecursion (λ (h : Holding). (h.seized ≡ true) ⊎ (h.failed ≡ true)) (held_of script.mode calls)
    pub closed : HasClosed x endings → held_of script.mode calls ≡ []

  abbrev pub Done : List Ending → List Call → Number → Type 0
  Done endings hc x = IsRec x hc → HasLeft script host x endings ⊎ Settled x (with_id x hc) endings

  abbrev pub AllDone : List Ending → List Call → Type 0
  AllDone endings hc = (x : Number) → Done endings hc x

  abbrev AreTasks : List Job → Type 0
  AreTasks jobs = AllByRecursion (λ (job : Job). IsTask script host job.task) jobs

  -- attempts of tasks
  abbrev CanTry : Task → Type 0
  CanTry (tasks.Lose bay) = ⊥
  CanTry (tasks.Fit bay) = ⊥
  CanTry _ = Unit {0}

  abbrev Tree : Task → Number → List Call → Steps Finish → Type 0
  Tree (tasks.Recover row) id calls steps = Rescues (rescue id row) script.mode calls steps
  Tree (tasks.Lose bay) id calls steps = ⊥
  Tree (tasks.Fit bay) id calls steps = ⊥
  Tree _ id calls steps = Others id steps

  abbrev Own : Task → Number → List Call → Type 0
  Own (tasks.Recover row) id calls = AllByRecursion (IsOwn id row) calls
  Own _ id calls = IsRec id calls → ⊥

  abbrev End : Task → Number → List Call → Ended → Type 0
  End (tasks.Recover row) id calls result = RescueEnd (rescue id row) script.mode calls result
  End _ id calls result = Unit {0}

  tree-end : (task : Task) (id : Number) (calls : List Call) (f : Finish) → Tree task id calls (Ends f) → End task id calls f.ended
  tree-end (tasks.Recover row) id calls f h = h
  tree-end (tasks.Read object first count) id calls f h = tt
  tree-end (tasks.Write object first from count) id calls f h = tt
  tree-end (tasks.Lose bay) id calls f h = tt
  tree-end (tasks.Fit bay) id calls f h = tt
  tree-end (tasks.Rebuild bay) id calls f h = tt

  tree-can : (task : Task) (id : Number) (calls : List Call) (steps : Steps Finish) → Tree task id calls steps → CanTry task
  tree-can (tasks.Recover row) id calls steps h = tt
  tree-can (tasks.Read object first count) id calls steps h = tt
  tree-can (tasks.Write object first from count) id calls steps h = tt
  tree-can (tasks.Lose bay) id calls steps h = h
  tree-can (tasks.Fit bay) id calls steps h = h
  tree-can (tasks.Rebuild bay) id calls steps h = tt

  tree-begins : (row : ℕ) (id : Number) (task : Task) → CanTry task → IsTask script host task → Tree task id [] (settled host id (attempt script host id row task)).steps
  tree-begins row id (tasks.Recover at) can aim = let r : Rescue = rescue id at in settled-rescues r script.mode host id [] (recover_steps r) (recoveries-rescue r script.mode)
  tree-begins row id (tasks.Read object first count) can aim = settled-others id host id (attempt script host id row (tasks.Read object first count)) (read-others script is host id row object first count)
  tree-begins row id (tasks.Write object first from count) can aim =
      settled-others id host id (attempt script host id row (tasks.Write object first from count)) (write-others script is host id row object first from count aim)
  tree-begins row id (tasks.Lose bay) can aim = can
  tree-begins row id (tasks.Fit bay) can aim = can
  tree-begins row id (tasks.Rebuild bay) can aim = settled-others id host id (attempt script host id row (tasks.Rebuild bay)) (mend-others script is host id row bay aim)

  own-begins : (task : Task) (id : Number) → Own task id []
  own-begins (tasks.Recover row) id = tt
  own-begins (tasks.Read object first count) id = λ h. h
  own-begins (tasks.Write object first from count) id = λ h. h
  own-begins (tasks.Lose bay) id = λ h. h
  own-begins (tasks.Fit bay) id = λ h. h
  own-begins (tasks.Rebuild bay) id = λ h. h

  -- where it stops
  stop-leaves : (task : Task) (calls : List Call) → WasUnderWay script host task calls → (tries : ℕ) (t : Ended) → IsUnclosed t → MayLeave script host task calls (quit_end tries t)
  stop-leaves task calls under tries (ends.Read n) u = absurd u
  stop-leaves task calls under tries (ends.Wrote n) u = absurd u
  stop-leaves task calls under tries (ends.Part n made cause) u = tt
  stop-leaves task calls under tries (ends.Recovered n closed lost) u = (u, under)
  stop-leaves task calls under tries (ends.Refused cause) u = (tt, under)
  stop-leaves task calls under tries ends.Mended u = (tt, under)

  -- the host has made these calls
  module _ (hc : List Call) where
    pub record Sound (p : Progress) : Type 0 where
      pub jobs : AreTasks p.jobs
      pub low : (x : Number) → HasId x hc → x.0 ≤ p.seen.0
      pub closed_low : (x : Number) → HasClosed x p.endings → x.0 ≤ p.seen.0

    pub record Hand (endings : List Ending) (calls : List Call) (seen : Number) (task : Task) (steps : Steps Finish) : Type 0 where
      pub id : Number
      pub low : id.0 ≤ seen.0
      pub same : with_id id hc ≡ calls
      pub ids : AllByRecursion (λ (c : Call). id_of c.ask.what ≡ Some id) calls
      pub others : (x : Number) → (x ≡ id → ⊥) → Done endings hc x
      pub unclosed : HasClosed id endings → ⊥
      pub tree : Tree task id calls steps
      pub own : Own task id calls

    abbrev pub Tries : List Job → List Ending → List Call → Number → Steps Finish → Type 0
    Tries [] endings calls seen steps = ⊥
    Tries (job ∷ jobs) endings calls seen steps = Hand endings calls seen job.task steps

    abbrev pub Works : List Job → List Ending → List Call → Number → Work → Type 0
    Works jobs endings calls seen (Trying steps) = Tries jobs endings calls seen steps
    Works jobs endings calls seen (Losing bay) = AllDone endings hc
    Works jobs endings calls seen (Fitting bay) = AllDone endings hc
    Works jobs endings calls seen Over = AllDone endings hc

    pub record Safe (p : Progress) : Type 0 where
      pub sound : Sound p
      pub work : Works p.jobs p.endings p.calls p.seen p.work

    -- a job has a result
    done-more : (x : Number) (es fs : List Ending) → (HasClosed x (es ++ fs) → HasClosed x es) → Done es hc x → Done (es ++ fs) hc x
    done-more x es fs back d = λ rec. by (d rec)
      where
        by : HasLeft script host x es ⊎ Settled x (with_id x hc) es → HasLeft script host x (es ++ fs) ⊎ Settled x (with_id x hc) (es ++ fs)
        by (inl l) = inl (left-more script host x es fs l)
        by (inr s) = inr (record { row = s.row; own = s.own; kept = s.kept; closed = λ c. s.closed (back c) })

    all-more : (p : Progress) (e : JobEnd) (read : List Content) → (IsClosed e → ⊥) → AllDone p.endings hc → AllDone (with_ending p e read).endings hc
    all-more p e read open_end d = λ x. done-more x p.endings (endings_of p.jobs e read p) (λ c. back x (closed-split x p.endings p.jobs e read p c)) (d x)
      where
        back : (x : Number) → HasClosed x p.endings ⊎ (HasId x p.calls × IsClosed e) → HasClosed x p.endings
        back x (inl c) = c
        back x (inr c) = absurd (open_end c.1)

    rest-tasks : (js : List Job) → AreTasks js → AreTasks (drop 1 js)
    rest-tasks [] h = tt
    rest-tasks (job ∷ jobs) h = h.1

    next-sound : (p : Progress) (e : JobEnd) (read : List Content) → Sound p → (IsClosed e → (x : Number) → HasId x p.calls → x.0 ≤ p.seen.0) → Sound (next_job (with_ending p e read))
    next-sound p e read s new = record { jobs = rest-tasks p.jobs s.jobs; low = s.low; closed_low = λ x c. by x (closed-split x p.endings p.jobs e read p c) }
      where
        by : (x : Number) → HasClosed x p.endings ⊎ (HasId x p.calls × IsClosed e) → x.0 ≤ p.seen.0
        by x (inl c) = s.closed_low x c
        by x (inr c) = new c.1 x c.0

    abbrev GoesOn : List Job → (Progress → Progress) → Type 0
    GoesOn jobs rest = (q : Progress) → q.jobs ≡ jobs → Sound q → AllDone q.endings hc → Safe (rest q)

    too-low : (x seen : Number) → x.0 ≤ seen.0 → seen.0 < x.0 → ⊥
    too-low x seen h g = absurd (omega (arith, h, g))

    module _ (rest : Progress → Progress) (job : Job) (jobs : List Job) (goes_on : GoesOn jobs rest) (p : Progress) (first : p.jobs ≡ job ∷ jobs) (s : Sound p) (d : AllDone p.endings hc) where
      skips : (q : Progress) (e : JobEnd) → q.jobs ≡ job ∷ jobs → Sound q → AllDone q.endings hc → (IsClosed e → ⊥) → Safe (rest (next_job (with_ending q e [])))
      skips q e same sound all open_end = goes_on (next_job (with_ending q e [])) (ap (drop 1) same) (next-sound q e [] sound (λ c. absurd (open_end c))) (all-more q e [] open_end all)

      tries-with : CanTry job.task → (n : Result Number Spent) → draw host p.seen ≡ n → Safe (try_with script host job.task rest (one_more p) n)
      tries-with can (Ok id) e =
          let above : p.seen.0 < id.0 = draw-more host p.seen id e in
          let a = attempt script host id p.row job.task in
          let more : id.0 ≤ (settled host id a).seen.0 = settled-more host id a in
          let aim : IsTask script host job.task = (subst AreTasks first s.jobs).0 in
          record {
            sound = record {
              jobs = s.jobs;
              low = λ x h. let l = s.low x h in omega (arith, l, above, more);
              closed_low = λ x c. let l = s.closed_low x c in omega (arith, l, above, more);
            };
            work = subst (λ (js : List Job). Tries js p.endings [] (settled host id a).seen (settled host id a).steps) (sym first)
                (record {
                  id = id;
                  low = more;
                  same = none-with id p.seen hc s.low above;
                  ids = tt;
                  others = λ x apart. d x;
                  unclosed = λ c. too-low id p.seen (s.closed_low id c) above;
                  tree = tree-begins p.row id job.task can aim;
                  own = own-begins job.task id;
                });
          }
      tries-with can (Err spent) e =
          skips (one_more p) (job_ends.Gave (p.tries + 1) (causes.Spent spent.seen)) first (record { jobs = s.jobs; low = s.low; closed_low = s.closed_low }) d (λ c. c)

      tries : CanTry job.task → Safe (try_task script host job.task rest p)
      tries can = tries-with can (draw host p.seen) refl

      tries-as : (task : Task) → job.task ≡ task → CanTry task → Safe (try_task script host task rest p)
      tries-as task same can = subst (λ (t : Task). Safe (try_task script host t rest p)) same (tries (subst CanTry (sym same) can))

      parts-begin : (task : Task) → job.task ≡ task → CanTry task → (r : Result (List RowPart) PartsFault) → Safe (try_parts script host task rest p r)
      parts-begin task same can (Ok parts) = tries-as task same can
      parts-begin task same can (Err fault) = skips p (parts_end fault) first s d (parts-open fault)

      loses : (bay : BayNo) (gone : Option Gone) → Safe (lose_job rest p bay gone)
      loses bay None = record { sound = record { jobs = s.jobs; low = s.low; closed_low = s.closed_low }; work = d }
      loses bay (Some gone) = skips p (job_ends.StillMissing gone.bay) first s d (λ c. c)

      fits-one : (bay : BayNo) (lost : Bool) → Safe (fit_job rest p bay lost)
      fits-one bay true = record { sound = record { jobs = s.jobs; low = s.low; closed_low = s.closed_low }; work = d }
      fits-one bay false = skips p (job_ends.NotLost bay) first s d (λ c. c)

      rebuilds : (bay : BayNo) → job.task ≡ tasks.Rebuild bay → (fitted : Bool) → Safe (rebuild_job script host rest p bay fitted)
      rebuilds bay same true = tries-as (tasks.Rebuild bay) same tt
      rebuilds bay same false = skips p (job_ends.NotFitted bay) first s d (λ c. c)

      starts-as : (task : Task) → job.task ≡ task → Safe (start_task script host rest p task)
      starts-as (tasks.Read object begin count) same = parts-begin (tasks.Read object begin count) same tt (parts_of script object begin count)
      starts-as (tasks.Write object begin from count) same = parts-begin (tasks.Write object begin from count) same tt (parts_of script object begin count)
      starts-as (tasks.Recover at) same = tries-as (tasks.Recover at) same tt
      starts-as (tasks.Lose bay) same = loses bay p.gone
      starts-as (tasks.Fit bay) same = fits-one bay (is_gone bay false p.gone)
      starts-as (tasks.Rebuild bay) same = rebuilds bay same (is_gone bay true p.gone)

      starts : Safe (start_task script host rest p job.task)
      starts = starts-as job.task refl

    pub start-safe : (jobs : List Job) → GoesOn jobs (start_jobs script host jobs)
    start-safe [] p none s d = record { sound = record { jobs = s.jobs; low = s.low; closed_low = s.closed_low }; work = d }
    start-safe (job ∷ jobs) p first s d = starts (start_jobs script host jobs) job jobs (start-safe jobs) p first s d

    -- A job ends
    on-safe : (q : Progress) (stopped : Bool) → Sound (next_job q) → AllDone q.endings hc → Safe (go_on script host q stopped)
    on-safe q true t d = record { sound = record { jobs = t.jobs; low = t.low; closed_low = t.closed_low }; work = d }
    on-safe q false t d = start-safe (drop 1 q.jobs) (next_job q) refl t d

    ended-safe : (p : Progress) (e : JobEnd) (read : List Content) → Sound p → (IsClosed e → (x : Number) → HasId x p.calls → x.0 ≤ p.seen.0) → AllDone (with_ending p e read).endings hc → Safe (job_ended script host p e read)
    ended-safe p e read s new d = on-safe (with_ending p e read) (stops p) (next-sound p e read s new) d

    plain-safe : (p : Progress) (e : JobEnd) (read : List Content) → Sound p → AllDone p.endings hc → (IsClosed e → ⊥) → Safe (job_ended script host p e read)
    plain-safe p e read s d open_end = ended-safe p e read s (λ c. absurd (open_end c)) (all-more p e read open_end d)

    again-safe : (p : Progress) (job : Job) (jobs : List Job) → p.jobs ≡ job ∷ jobs → CanTry job.task → Sound p → AllDone p.endings hc → (o : Option Task) → o ≡ Some job.task → Safe (try_again script host p o)
    again-safe p job jobs same can s d None e = absurd (cc)
    again-safe p job jobs same can s d (Some task) e =
        let is_task : task ≡ job.task = cc in
        subst (λ (t : Task). Safe (try_task script host t (start_jobs script host (drop 1 p.jobs)) p)) (sym is_task)
        (tries (start_jobs script host (drop 1 p.jobs)) job jobs (λ q left sound all. start-safe (drop 1 p.jobs) q (left ∙ sym (ap (drop 1) same)) sound all) p same s d can)

    -- The attempt in hand is over
    module _ (p : Progress) (job : Job) (jobs : List Job) (first : p.jobs ≡ job ∷ jobs) (s : Sound p) (can : CanTry job.task) where
      more-safe : (later : Progress) → later.jobs ≡ job ∷ jobs → Sound later → AllDone later.endings hc → AllDone p.endings hc → (stopped : Bool) → Safe (once_more script host p later stopped)
      more-safe later same t d c true = plain-safe p (job_ends.Gave p.tries causes.Quit) [] s c (λ x. x)
      more-safe later same t d c false = again-safe later job jobs same can t d (task_of p.jobs) (ap (λ (js : List Job). task_of js) first)

      refused-safe : (cause : Cause) → AllDone p.endings hc → (last : Bool) → Safe (attempt_refused script host p cause last)
      refused-safe cause d true = plain-safe p (job_ends.Gave p.tries cause) [] s d (λ x. x)
      refused-safe cause d false = more-safe p first s d d (stops p)

      mended-safe : AllDone p.endings hc → (last : Bool) → Safe (row_mended script host p last)
      mended-safe d true = plain-safe (record p { gone = None }) job_ends.Rebuilt [] (record { jobs = s.jobs; low = s.low; closed_low = s.closed_low }) d (λ x. x)
      mended-safe d false = more-safe (next_row p) first (record { jobs = s.jobs; low = s.low; closed_low = s.closed_low }) d d (stops p)

      -- what the attempt leaves
      module _ (id : Number) (low : id.0 ≤ p.seen.0) (same : with_id id hc ≡ p.calls) (ids : AllByRecursion (λ (c : Call). id_of c.ask.what ≡ Some id) p.calls)
          (others : (x : Number) → (x ≡ id → ⊥) → Done p.endings hc x) (unclosed : HasClosed id p.endings → ⊥) (own : Own job.task id p.calls) where
        no-rec : (task : Task) → (IsRec id p.calls → ⊥) → IsRec id hc → ⊥
        no-rec task none rec = none (subst (λ (cs : List Call). IsRec id cs) same (rec-with id hc rec))

        settled-as : (es : List Ending) (row : RowNo) → AllByRecursion (IsOwn id row) p.calls → AllByRecursion (λ (h : Holding). (h.seized ≡ true) ⊎ (h.failed ≡ true)) (held_of script.mode p.calls) →
            (HasClosed id es → held_of script.mode p.calls ≡ []) → Settled id (with_id id hc) es
        settled-as es row mine kept closed = subst (λ (cs : List Call). Settled id cs es) (sym same) (record { row = row; own = mine; kept = kept; closed = closed })

        -- of its own id
        own-done : (task : Task) (result : Ended) → Own task id p.calls → End task id p.calls result → (es : List Ending) → ((cause : Cause) → result ≡ ends.Refused cause → HasClosed id es → ⊥) → Done es hc id
        own-done (tasks.Recover row) (ends.Recovered n closed lost) mine end es refused = λ rec.
            inr (settled-as es row mine (subst (λ (hs : List Holding). AllByRecursion (λ (h : Holding). (h.seized ≡ true) ⊎ (h.failed ≡ true)) hs) (sym end.none) tt) (λ c. end.none))
        own-done (tasks.Recover row) (ends.Refused cause) mine end es refused = λ rec. inr (settled-as es row mine end (λ c. absurd (refused cause refl c)))
        own-done (tasks.Recover row) (ends.Read n) mine end es refused = absurd end
        own-done (tasks.Recover row) (ends.Wrote n) mine end es refused = absurd end
        own-done (tasks.Recover row) (ends.Part n made cause) mine end es refused = absurd end
        own-done (tasks.Recover row) ends.Mended mine end es refused = absurd end
        own-done (tasks.Read object begin count) result mine end es refused = λ rec. absurd (no-rec (tasks.Read object begin count) mine rec)
        own-done (tasks.Write object begin from count) result mine end es refused = λ rec. absurd (no-rec (tasks.Write object begin from count) mine rec)
        own-done (tasks.Lose bay) result mine end es refused = λ rec. absurd (no-rec (tasks.Lose bay) mine rec)
        own-done (tasks.Fit bay) result mine end es refused = λ rec. absurd (no-rec (tasks.Fit bay) mine rec)
        own-done (tasks.Rebuild bay) result mine end es refused = λ rec. absurd (no-rec (tasks.Rebuild bay) mine rec)

        all-own : (es : List Ending) → Done es hc id → ((x : Number) → (x ≡ id → ⊥) → Done es hc x) → AllDone es hc
        all-own es mine rest x = by (x.0 == id.0) refl
          where
            by : (b : Bool) → (x.0 == id.0) ≡ b → Done es hc x
            by true e = subst (λ (y : Number). Done es hc y) (sym (same-id x id e)) mine
            by false e = rest x (λ eq. let bad : false ≡ true = sym e ∙ ap (λ (y : Number). y.0 == id.0) eq ∙ itself in cc)
              where
                itself : (id.0 == id.0) ≡ true
                itself = grind (arith, nat_tests)

        -- with an ending of its own
        others-more : (e : JobEnd) (read : List Content) (x : Number) → (x ≡ id → ⊥) → Done (with_ending p e read).endings hc x
        others-more e read x apart = done-more x p.endings (endings_of p.jobs e read p) (λ c. back (closed-split x p.endings p.jobs e read p c)) (others x apart)
          where
            back : HasClosed x p.endings ⊎ (HasId x p.calls × IsClosed e) → HasClosed x p.endings
            back (inl c) = c
            back (inr c) = absurd (apart (ids-same x id p.calls ids c.0))

        new-low : (e : JobEnd) → IsClosed e → (x : Number) → HasId x p.calls → x.0 ≤ p.seen.0
        new-low e c x h = subst (λ (y : Number). y.0 ≤ p.seen.0) (sym (ids-same x id p.calls ids h)) low

        over : (result : Ended) → End job.task id p.calls result → AllDone p.endings hc
        over result end = all-own p.endings (own-done job.task result own end p.endings (λ cause e c. unclosed c)) others

        attempt-safe : (read : List Content) (result : Ended) → End job.task id p.calls result → Safe (attempt_ended script host p read result)
        attempt-safe read (ends.Read n) end = plain-safe p (job_ends.Read n) read s (over (ends.Read n) end) (λ c. c)
        attempt-safe read (ends.Wrote n) end = plain-safe p (job_ends.Wrote n) [] s (over (ends.Wrote n) end) (λ c. c)
        attempt-safe read (ends.Part n made cause) end = plain-safe p (job_ends.Part n made cause) [] s (over (ends.Part n made cause) end) (λ c. c)
        attempt-safe read (ends.Refused cause) end = refused-safe cause (over (ends.Refused cause) end) ((p.tries == script.tries) || is_spent cause)
        attempt-safe read ends.Mended end = mended-safe (over ends.Mended end) (p.row + 1 == script.rows)
        attempt-safe read (ends.Recovered n closed lost) end =
            let e : JobEnd = job_ends.Recovered n closed lost in
            ended-safe p e [] s (new-low e)
            (all-own (with_ending p e []).endings (own-done job.task (ends.Recovered n closed lost) own end (with_ending p e []).endings (λ cause f c. absurd (cc))) (others-more e []))

        -- its host stops
        rec-id : IsRec id hc → HasId id p.calls
        rec-id rec = go p.calls (subst (λ (cs : List Call). IsRec id cs) same (rec-with id hc rec))
          where
            go : (cs : List Call) → IsRec id cs → HasId id cs
            go [] h = h
            go (c ∷ cs) (inl h) = inl (ap (λ (w : Request). id_of w) h.3)
            go (c ∷ cs) (inr h) = inr (go cs h)

        stopped-done : (e : JobEnd) → (IsRec id hc → MayLeave script host job.task p.calls e) → AllDone (with_ending p e []).endings hc
        stopped-done e leave =
            all-own (with_ending p e []).endings
            (λ rec. inl (left-last script host id p.endings (endings_of p.jobs e [] p) (subst (λ (js : List Job). HasLeft script host id (endings_of js e [] p)) (sym first) (inl (rec-id rec, leave rec)))))
            (others-more e [])

        stop-leave : WasUnderWay script host job.task p.calls → (task : Task) (x : Errand) (t : Ended) (c : _) (k : Reply → Steps Finish) → Own task id p.calls → Tree task id p.calls (Asks x t c k) → IsRec id hc →
            MayLeave script host job.task p.calls (quit_end p.tries t)
        stop-leave under (tasks.Recover row) x t c k mine tree rec = stop-leaves job.task p.calls under p.tries t tree.1
        stop-leave under (tasks.Read object begin count) x t c k mine tree rec = absurd (no-rec (tasks.Read object begin count) mine rec)
        stop-leave under (tasks.Write object begin from count) x t c k mine tree rec = absurd (no-rec (tasks.Write object begin from count) mine rec)
        stop-leave under (tasks.Lose bay) x t c k mine tree rec = absurd tree
        stop-leave under (tasks.Fit bay) x t c k mine tree rec = absurd tree
        stop-leave under (tasks.Rebuild bay) x t c k mine tree rec = absurd (no-rec (tasks.Rebuild bay) mine rec)

    -- steps that are left
    left-safe : (p : Progress) → Sound p → (js : List Job) → p.jobs ≡ js → (steps : Steps Finish) → draws steps ≡ false → IsLed script host js p.calls p.seen steps → Tries js p.endings p.calls p.seen steps → Safe (steps_left script host p steps)
    left-safe p s [] first steps none led h = absurd h
    left-safe p s (job ∷ jobs) first (Asks e t c k) none led h = go (stops p)
      where
        go : (stopped : Bool) → Safe (asks_on p (Asks e t c k) t stopped)
        go true =
            let end = quit_end p.tries t in
            let can = tree-can job.task h.id p.calls (Asks e t c k) h.tree in
            let n = next-sound p end [] s (new-low p job jobs first s can h.id h.low h.same h.ids h.others h.unclosed h.own end) in
            record {
              sound = record { jobs = n.jobs; low = n.low; closed_low = n.closed_low };
              work = stopped-done p job jobs first s can h.id h.low h.same h.ids h.others h.unclosed h.own end
                  (stop-leave p job jobs first s can h.id h.low h.same h.ids h.others h.unclosed h.own (under-way script host job jobs p.calls p.seen e t c k led) job.task e t c k h.own h.tree);
            }
        go false = record {
          sound = record { jobs = s.jobs; low = s.low; closed_low = s.closed_low };
          work = subst (λ (xs : List Job). Tries xs p.endings p.calls p.seen (Asks e t c k)) (sym first) h;
        }
    left-safe p s (job ∷ jobs) first (Draws k) none led h = absurd (let bad : true ≡ false = none in cc)
    left-safe p s (job ∷ jobs) first (Ends f) none led h =
        attempt-safe p job jobs first s (tree-can job.task h.id p.calls (Ends f) h.tree) h.id h.low h.same h.ids h.others h.unclosed h.own f.contents f.ended (tree-end job.task h.id p.calls f h.tree)

  -- A call of the host
  settled-drawn : (seen : Number) (s : Steps Finish) → draws (settled host seen s).steps ≡ false
  settled-drawn seen (Asks e t c k) = refl
  settled-drawn seen (Draws k) = settled-drawn (seen_drawn seen (draw host seen)) (k (draw host seen))
  settled-drawn seen (Ends f) = refl

  own-id : (id : Number) (row : RowNo) (bay : BayNo) (what : Request) → IsOwnAsk (rescue id row) bay what → id_of what ≡ Some id
  own-id id row bay (Share r by want) o = absurd o
  own-id id row bay (Claim r by how mask want) o = ap (λ (x : Number). Some x) o.0
  own-id id row bay (Confirm r by want) o = ap (λ (x : Number). Some x) o
  own-id id row bay (Put r by n cell) o = ap (λ (x : Number). Some x) o.0
  own-id id row bay (Release r by n) o = ap (λ (x : Number). Some x) o
  own-id id row bay Lose o = absurd o
  own-id id row bay Fit o = absurd o

  other-id : (id : Number) (what : Request) → IsOtherAsk id what → id_of what ≡ Some id
  other-id id (Share r by want) o = ap (λ (x : Number). Some x) o
  other-id id (Claim r by how mask want) o = ap (λ (x : Number). Some x) o.0
  other-id id (Confirm r by want) o = ap (λ (x : Number). Some x) o
  other-id id (Put r by n cell) o = ap (λ (x : Number). Some x) o
  other-id id (Release r by n) o = ap (λ (x : Number). Some x) o
  other-id id Lose o = absurd o
  other-id id Fit o = absurd o

  -- what an attempt in hand asks, and how it goes on
  pub record Goes (task : Task) (id : Number) (calls : List Call) (seen : Number) (steps : Steps Finish) (call : Call) : Type 0 where
    pub asked : id_of call.ask.what ≡ Some id
    pub tree : Tree task id (call ∷ calls) (settled host seen (behind steps call.answer.reply)).steps
    pub own : Own task id (call ∷ calls)

  other-goes : (id : Number) (calls : List Call) (seen : Number) (steps : Steps Finish) (call : Call) → Others id steps → (IsRec id calls → ⊥) → next_errand steps ≡ Some (errand_of call) →
      (id_of call.ask.what ≡ Some id) × Others id (settled host seen (behind steps call.answer.reply)).steps × (IsRec id (call ∷ calls) → ⊥)
  other-goes id calls seen steps call h none asked =
      let ask : IsOtherAsk id call.ask.what = asks-other id steps (errand_of call) h asked in
      (other-id id call.ask.what ask, settled-others id host seen (behind steps call.answer.reply) (behind-others id steps call.answer.reply h), λ rec. by ask rec)
    where
      by : IsOtherAsk id call.ask.what → IsRec id (call ∷ calls) → ⊥
      by ask (inl x) = (subst (λ (w : Request). IsOtherAsk id w) x.3 ask).1 refl
      by ask (inr x) = none x

  goes : (task : Task) (id : Number) (calls : List Call) (seen : Number) (steps : Steps Finish) (call : Call) → Tree task id calls steps → Own task id calls → next_errand steps ≡ Some (errand_of call) →
      fits call.ask.what call.answer.reply ≡ true → Goes task id calls seen steps call
  goes (tasks.Recover row) id calls seen steps call h o asked fit =
      let r : Rescue = rescue id row in
      let ask : IsOwnAsk r call.bay call.ask.what = asks-rescue r script.mode calls steps (errand_of call) h asked in
      record {
        asked = own-id id row call.bay call.ask.what ask;
        tree = settled-rescues r script.mode host seen (call ∷ calls) (behind steps call.answer.reply) (behind-rescues r script.mode calls steps call h asked fit);
        own = ((ask, fit), o);
      }
  goes (tasks.Read object first count) id calls seen steps call h o asked fit = let g = other-goes id calls seen steps call h o asked in record { asked = g.0; tree = g.1; own = g.2 }
  goes (tasks.Write object first from count) id calls seen steps call h o asked fit = let g = other-goes id calls seen steps call h o asked in record { asked = g.0; tree = g.1; own = g.2 }
  goes (tasks.Lose bay) id calls seen steps call h o asked fit = absurd h
  goes (tasks.Fit bay) id calls seen steps call h o asked fit = absurd h
  goes (tasks.Rebuild bay) id calls seen steps call h o asked fit = let g = other-goes id calls seen steps call h o asked in record { asked = g.0; tree = g.1; own = g.2 }

  module _ (hc : List Call) (call : Call) where
    abbrev hc' : List Call
    hc' = call ∷ hc

    -- calls of other ids stay
    with-other : (x : Number) → has x (id_of call.ask.what) ≡ false → with_id x hc' ≡ with_id x hc
    with-other x e = ap (λ (b : Bool). if b then call ∷ with_id x hc else with_id x hc) e

    done-other : (x : Number) (es : List Ending) → has x (id_of call.ask.what) ≡ false → Done es hc x → Done es hc' x
    done-other x es e d (inl c) = absurd (let bad : true ≡ false = sym (has-own x) ∙ ap (λ (w : Request). has x (id_of w)) (sym c.3) ∙ e in cc)
    done-other x es e d (inr rec) = by (d rec)
      where
        by : HasLeft script host x es ⊎ Settled x (with_id x hc) es → HasLeft script host x es ⊎ Settled x (with_id x hc') es
        by (inl l) = inl l
        by (inr t) = inr (subst (λ (cs : List Call). Settled x cs es) (sym (with-other x e)) t)

    tells-safe : (p : Progress) (js : List Job) → p.jobs ≡ js → (steps : Steps Finish) → Sound hc p → IsLed script host js p.calls p.seen steps → Tries hc js p.endings p.calls p.seen steps → next_errand steps ≡ Some (errand_of call) → fits call.ask.what call.answer.reply ≡ true →
        Safe hc' (work_told script host (call_counted p call) call.answer.reply (Trying steps))
    tells-safe p [] first steps s led h asked fit = absurd h
    tells-safe p (job ∷ jobs) first steps s led h asked fit =
        let before : Standing Finish = record { seen = p.seen; steps = steps } in
        let now : Standing Finish = told host before call.answer.reply in
        let more : p.seen.0 ≤ now.seen.0 = (seen-covers host before (call ∷ []) now (asked, refl)).kept in
        let g : Goes job.task h.id p.calls (sees p.seen call.answer.reply) steps call = goes job.task h.id p.calls (sees p.seen call.answer.reply) steps call h.tree h.own asked fit in
        let low : h.id.0 ≤ p.seen.0 = h.low in
        left-safe hc' (record (call_counted p call) { seen = now.seen })
        (record {
          jobs = s.jobs;
          low = λ x i. lows g.asked low more x i;
          closed_low = λ x c. let l = s.closed_low x c in omega (arith, l, more);
        })
        (job ∷ jobs) first now.steps (settled-drawn (sees p.seen call.answer.reply) (behind steps call.answer.reply))
        (led-on script host (job ∷ jobs) p.calls p.seen steps call asked fit led)
        (record {
          id = h.id;
          low = omega (arith, low, more);
          same = ap (λ (b : Bool). if b then call ∷ with_id h.id hc else with_id h.id hc) (ap (λ (o : Option Number). has h.id o) g.asked ∙ has-own h.id) ∙ ap (λ (cs : List Call). call ∷ cs) h.same;
          ids = (g.asked, h.ids);
          others = λ x apart. done-other x p.endings (ap (λ (o : Option Number). has x o) g.asked ∙ has-other x h.id apart) (h.others x apart);
          unclosed = h.unclosed;
          tree = g.tree;
          own = g.own;
        })
      where
        lows : {id later : Number} → id_of call.ask.what ≡ Some id → id.0 ≤ p.seen.0 → p.seen.0 ≤ later.0 → (x : Number) → HasId x hc' → x.0 ≤ later.0
        lows {id} {later} e low more x (inl i) = let same : Some id ≡ Some x = sym e ∙ i in let own : id ≡ x = cc in subst (λ (y : Number). y.0 ≤ later.0) own (omega (arith, low, more))
        lows {id} {later} e low more x (inr i) = let l = s.low x i in omega (arith, l, more)

    -- a request that is a job of its own
    bare-safe : (p q : Progress) (e : JobEnd) → id_of call.ask.what ≡ None → Sound hc p → AllDone p.endings hc → q.jobs ≡ p.jobs → q.endings ≡ p.endings → q.seen ≡ p.seen → (IsClosed e → ⊥) → Safe hc' (job_ended script host q e [])
    bare-safe p q e none s d jobs endings seen open_end =
        plain-safe hc' q e []
        (record {
          jobs = subst AreTasks (sym jobs) s.jobs;
          low = λ x i. subst (λ (y : Number). x.0 ≤ y.0) (sym seen) (low x i);
          closed_low = λ x c. subst (λ (y : Number). x.0 ≤ y.0) (sym seen) (s.closed_low x (subst (HasClosed x) endings c));
        })
        (λ x. done-other x q.endings (ap (λ (o : Option Number). has x o) none) (subst (λ (es : List Ending). Done es hc x) (sym endings) (d x))) open_end
      where
        low : (x : Number) → HasId x hc' → x.0 ≤ p.seen.0
        low x (inl i) = absurd (let bad : None ≡ Some x = sym none ∙ i in cc)
        low x (inr i) = s.low x i

    pub work-safe : (p : Progress) (work : Work) → work_errand work ≡ Some (errand_of call) → fits call.ask.what call.answer.reply ≡ true → Sound hc p → IsWorkLed script host p.jobs p.calls p.seen work → Works hc p.jobs p.endings p.calls p.seen work →
        Safe hc' (work_told script host (call_counted p call) call.answer.reply work)
    work-safe p (Trying steps) asked fit s led h = tells-safe p p.jobs refl steps s led h asked fit
    work-safe p (Losing bay) asked fit s led h =
        let same : record { bay = bay; request = Lose } ≡ errand_of call = cc in
        bare-safe p (record (call_counted p call) { gone = Some (record { bay = bay; fitted = false }) }) job_ends.Lost (ap (λ (x : Errand). id_of x.request) (sym same)) s h refl refl refl (λ c. c)
    work-safe p (Fitting bay) asked fit s led h =
        let same : record { bay = bay; request = Fit } ≡ errand_of call = cc in
        bare-safe p (record (call_counted p call) { gone = Some (record { bay = bay; fitted = true }) }) job_ends.Fitted (ap (λ (x : Errand). id_of x.request) (sym same)) s h refl refl refl (λ c. c)
    work-safe p Over asked fit s led h = absurd (cc)
