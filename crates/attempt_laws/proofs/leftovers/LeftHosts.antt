-- A host's notes and readers while it goes through its jobs: each is of the attempt in hand, which holds its slot, or it
-- may stay.
use Rattle.std.proofs.Common.{◌≡◌, ◌⊎◌, inl, inr, ℕ, ◌+◌, ◌<◌, ◌≤◌, ◌==◌, ◌||◌, Bool, true, false, List, [], ◌∷◌, ◌++◌, drop, Option, Some, None, IsSome, Result, Ok, Err, refl, sym, ap, subst, ◌∙◌, arith}
use Rattle.std.specs.List.{AllByRecursion}
use Rattle.std.proofs.lemmas.Bool.Decides.{nat_tests}
use Rattle.raid_base.specs.declared.numbers.BayNo.{BayNo}
use Rattle.raid_base.specs.declared.numbers.HostNo.{HostNo}
use Rattle.raid_base.specs.declared.numbers.RowNo.{RowNo}
use Rattle.raid_base.specs.declared.numbers.Number.{Number}
use Rattle.raid_base.specs.declared.numbers.Spent.{Spent}
use Rattle.raid_base.specs.declared.cells.Content.{Content}
use Rattle.raid_base.specs.declared.messages.Mode.{Mode}
use Rattle.raid_base.specs.declared.messages.Mode.TheVariants.{Lock}
use Rattle.raid_base.specs.declared.messages.How.{How}
use Rattle.raid_base.specs.declared.messages.How.TheVariants.{Seize}
use Rattle.raid_base.specs.declared.messages.PutEnd.{PutEnd}
use Rattle.raid_base.specs.declared.messages.PutEnd.TheVariants.{Made, Unnoted, Failed}
use Rattle.raid_base.specs.declared.messages.Call.{Call}
use Rattle.raid_base.specs.declared.messages.Errand.{Errand}
use Rattle.raid_base.specs.declared.messages.Reply.{Reply}
use Rattle.raid_base.specs.declared.messages.Request.{Request}
use Rattle.raid_base.specs.declared.messages.Request.TheVariants.{Share, Claim, Confirm, Put, Release, Lose, Fit}
use Rattle.raid_base.specs.declared.jobs.Job.{Job}
use Rattle.raid_base.specs.declared.jobs.Task.{Task}
use Rattle.raid_base.specs.declared.jobs.Task.TheVariants as tasks
use Rattle.raid_base.specs.declared.jobs.RowPart.{RowPart}
use Rattle.raid_base.specs.declared.jobs.PartsFault.{PartsFault}
use Rattle.raid_base.specs.declared.jobs.Cause.{Cause}
use Rattle.raid_base.specs.declared.jobs.Cause.TheVariants as causes
use Rattle.raid_base.specs.declared.jobs.Ended.{Ended}
use Rattle.raid_base.specs.declared.jobs.Ended.TheVariants as ends
use Rattle.raid_base.specs.declared.jobs.JobEnd.{JobEnd}
use Rattle.raid_base.specs.declared.jobs.JobEnd.TheVariants as job_ends
use Rattle.raid_base.specs.Fits.{fits}
use Rattle.raid_base.specs.Numbers.{draw, seen_drawn, sees}
use Rattle.raid_base.specs.Replies.{grant_of, put_end}
use Rattle.raid_base.specs.Steps.{Steps, Asks, Draws, Ends, Standing, next_errand, behind, settled, told, draws, errand_of}
use Rattle.attempts.specs.Taking.{Finish}
use Rattle.attempts.specs.Phases.{is_slot}
use Rattle.attempts.specs.Returns.{Holding, held_after}
use Rattle.attempts.proofs.NumberingLemmas.{seen-covers}
use Rattle.script_text.specs.Script.{Script, jobs_of, parts_of}
use Rattle.script_text.specs.Ranges.{IsScript, IsTask}
use Rattle.histories.specs.declared.operator.Gone.{Gone}
use Rattle.histories.specs.Operator.{is_gone}
use Rattle.histories.specs.Calls.{id_of}
use Rattle.histories.specs.Progress.{Work, Trying, Losing, Fitting, Over, Progress, Ending, endings_of, with_ending, next_job, attempt, try_with, one_more, try_task, parts_end, try_parts, lose_job, fit_job, rebuild_job, start_task, start_jobs, at_start, stops, go_on, job_ended, task_of, try_again, once_more, is_spent, attempt_refused, next_row, row_mended, attempt_ended, quit_end, asks_on, steps_left, work_errand, work_told, call_counted}
use Rattle.histories.specs.Leftovers.{HasId, IsQuit}
use Rattle.attempt_laws.specs.Leftovers.{WasUnderWay}
use Rattle.attempt_laws.proofs.leftovers.UnderWay.{IsLed, IsWorkLed, led-on, under-way}
use Rattle.attempt_laws.proofs.leftovers.LeftTrees.{IfSeizes, StopsWell}
use Rattle.attempt_laws.proofs.leftovers.LeftLeaves.{Aim, Aims, EndsWell, IsAsked, Leaving, told-leaves, settled-leaves, attempt-leads, draw-more, settled-more, on, Holds, claimed-new, Gives, GivesPut, after-holds}

settled-drawn : (host : HostNo) (seen : Number) (s : Steps Finish) → draws (settled host seen s).steps ≡ false
settled-drawn host seen (Asks e t c k) = refl
settled-drawn host seen (Draws k) = settled-drawn host (seen_drawn seen (draw host seen)) (k (draw host seen))
settled-drawn host seen (Ends f) = refl

-- a job whose attempt is no recovery ended as done in part, or where its host stopped while it was under way
abbrev pub MayLeave : Script → HostNo → Task → List Call → JobEnd → Type 0
MayLeave script host task calls (job_ends.Part n made cause) = Unit {0}
MayLeave script host task calls (job_ends.Gave tries cause) = IsQuit cause × WasUnderWay script host task calls
MayLeave script host task calls _ = ⊥

abbrev pub HasLeft : Script → HostNo → Number → List Ending → Type 0
HasLeft script host id [] = ⊥
HasLeft script host id (e ∷ endings) = (HasId id e.calls × MayLeave script host e.job.task e.calls e.ended) ⊎ HasLeft script host id endings

left-more : (script : Script) (host : HostNo) (id : Number) (xs ys : List Ending) → HasLeft script host id xs → HasLeft script host id (xs ++ ys)
left-more script host id [] ys h = absurd h
left-more script host id (x ∷ xs) ys (inl h) = inl h
left-more script host id (x ∷ xs) ys (inr h) = inr (left-more script host id xs ys h)

left-last : (script : Script) (host : HostNo) (id : Number) (xs ys : List Ending) → HasLeft script host id ys → HasLeft script host id (xs ++ ys)
left-last script host id [] ys h = h
left-last script host id (x ∷ xs) ys h = inr (left-last script host id xs ys h)

-- a note or a reader that comes with a call
abbrev pub NewNote : BayNo → Request → Reply → BayNo → RowNo → Number → Type 0
NewNote bay (Share row id want) r at there x = ⊥
NewNote bay (Claim row id how mask want) r at there x = (bay ≡ at) × (row ≡ there) × (id ≡ x) × IsSome (grant_of r)
NewNote bay (Confirm row id want) r at there x = ⊥
NewNote bay (Put row id n cell) r at there x = ⊥
NewNote bay (Release row id n) r at there x = ⊥
NewNote bay Lose r at there x = ⊥
NewNote bay Fit r at there x = ⊥

abbrev pub NewReader : Mode → BayNo → Request → Reply → BayNo → RowNo → Number → Type 0
NewReader mode bay (Share row id want) r at there x = (bay ≡ at) × (row ≡ there) × (id ≡ x) × IsSome (grant_of r) × (mode ≡ Lock)
NewReader mode bay (Claim row id how mask want) r at there x = ⊥
NewReader mode bay (Confirm row id want) r at there x = ⊥
NewReader mode bay (Put row id n cell) r at there x = ⊥
NewReader mode bay (Release row id n) r at there x = ⊥
NewReader mode bay Lose r at there x = ⊥
NewReader mode bay Fit r at there x = ⊥

-- N and R say where notes and readers of the host with an id stand, and S which ids are of its recoveries
module _ (script : Script) (is : IsScript script) (host : HostNo) where
  module _ (N R : BayNo → RowNo → Number → Type 0) (S : Number → Type 0) where
    abbrev pub Covered : List Ending → Number → Type 0
    Covered endings x = HasLeft script host x endings ⊎ S x

    pub record Sound (p : Progress) : Type 0 where
      pub tasks : AllByRecursion (λ (job : Job). IsTask script host job.task) p.jobs
      pub notes_low : (at : BayNo) (row : RowNo) (x : Number) → N at row x → x.0 ≤ p.seen.0
      pub readers_low : (at : BayNo) (row : RowNo) (x : Number) → R at row x → x.0 ≤ p.seen.0

    pub record AllCovered (endings : List Ending) : Type 0 where
      pub notes : (at : BayNo) (row : RowNo) (x : Number) → N at row x → Covered endings x
      pub readers : (at : BayNo) (row : RowNo) (x : Number) → R at row x → Covered endings x

    -- it is of the attempt in hand
    pub record Mine (id : Number) (seizes : Bool) (held : List Holding) (calls : List Call) (at : BayNo) (row : RowNo) (x : Number) : Type 0 where
      pub own : x ≡ id
      pub plain : seizes ≡ false
      pub holds : Holds (on at row) held
      pub called : HasId id calls

    pub record Has (endings : List Ending) (calls : List Call) (id : Number) (aim : Aim) (seizes : Bool) (held : List Holding) : Type 0 where
      pub notes : (at : BayNo) (row : RowNo) (x : Number) → N at row x → (Mine id seizes held calls at row x × Aims aim at row) ⊎ Covered endings x
      pub readers : (at : BayNo) (row : RowNo) (x : Number) → R at row x → (Mine id seizes held calls at row x × (Aims aim at row → ⊥)) ⊎ Covered endings x

    pub record InHand (endings : List Ending) (calls : List Call) (seen : Number) (steps : Steps Finish) : Type 0 where
      pub id : Number
      pub low : id.0 ≤ seen.0
      pub held : List Holding
      pub leaving : Leaving script.mode id held steps
      pub has : Has endings calls id leaving.aim leaving.seizes held

    abbrev pub TriesWork : List Job → List Ending → List Call → Number → Steps Finish → Type 0
    TriesWork [] endings calls seen steps = ⊥
    TriesWork (job ∷ jobs) endings calls seen steps = InHand endings calls seen steps

    abbrev pub SafeWork : List Job → List Ending → List Call → Number → Work → Type 0
    SafeWork jobs endings calls seen (Trying steps) = TriesWork jobs endings calls seen steps
    SafeWork jobs endings calls seen (Losing bay) = AllCovered endings
    SafeWork jobs endings calls seen (Fitting bay) = AllCovered endings
    SafeWork jobs endings calls seen Over = AllCovered endings

    pub record Safe (p : Progress) : Type 0 where
      pub sound : Sound p
      pub work : SafeWork p.jobs p.endings p.calls p.seen p.work

    -- endings are added
    covered-more : (xs ys : List Ending) (x : Number) → Covered xs x → Covered (xs ++ ys) x
    covered-more xs ys x (inl h) = inl (left-more script host x xs ys h)
    covered-more xs ys x (inr h) = inr h

    all-more : (xs ys : List Ending) → AllCovered xs → AllCovered (xs ++ ys)
    all-more xs ys c = record { notes = λ at row x n. covered-more xs ys x (c.notes at row x n); readers = λ at row x n. covered-more xs ys x (c.readers at row x n) }

    rest-tasks : (js : List Job) → AllByRecursion (λ (job : Job). IsTask script host job.task) js → AllByRecursion (λ (job : Job). IsTask script host job.task) (drop 1 js)
    rest-tasks [] h = tt
    rest-tasks (job ∷ jobs) h = h.1

    next-sound : (p : Progress) (e : JobEnd) (read : List Content) → Sound p → Sound (next_job (with_ending p e read))
    next-sound p e read s = record { tasks = rest-tasks p.jobs s.tasks; notes_low = s.notes_low; readers_low = s.readers_low }

    -- where it goes on with these jobs
    abbrev pub GoesOn : List Job → (Progress → Progress) → Type 0
    GoesOn jobs rest = (q : Progress) → q.jobs ≡ jobs → Sound q → AllCovered q.endings → Safe (rest q)

    not-below : (x seen : Number) → x.0 ≤ seen.0 → seen.0 < x.0 → ⊥
    not-below x seen h g = absurd (omega (arith, h, g))

    module _ (rest : Progress → Progress) (job : Job) (jobs : List Job) (goes_on : GoesOn jobs rest) (p : Progress) (first : p.jobs ≡ job ∷ jobs) (s : Sound p) (c : AllCovered p.endings) where
      skips : (q : Progress) (e : JobEnd) → q.jobs ≡ job ∷ jobs → Sound q → AllCovered q.endings → Safe (rest (next_job (with_ending q e [])))
      skips q e same sound all = goes_on (next_job (with_ending q e [])) (ap (drop 1) same) (next-sound q e [] sound) (all-more q.endings (endings_of q.jobs e [] q) all)

      own-task : IsTask script host job.task
      own-task = (subst (AllByRecursion (λ (j : Job). IsTask script host j.task)) first s.tasks).0

      tries-with : (d : Result Number Spent) → draw host p.seen ≡ d → Safe (try_with script host job.task rest (one_more p) d)
      tries-with (Ok id) e =
          let above = draw-more host p.seen id e in
          let a = attempt script host id p.row job.task in
          let more = settled-more host id a in
          let l = attempt-leads script is host id p.row job.task own-task in
          record {
            sound = record {
              tasks = s.tasks;
              notes_low = λ at row x n. let h = s.notes_low at row x n in omega (arith, h, above, more);
              readers_low = λ at row x n. let h = s.readers_low at row x n in omega (arith, h, above, more);
            };
            work = subst (λ (js : List Job). TriesWork js p.endings [] (settled host id a).seen (settled host id a).steps) (sym first)
                (record {
                  id = id;
                  low = more;
                  held = [];
                  leaving = record { aim = l.aim; seizes = l.seizes; leaves = settled-leaves script.mode (Aims l.aim) l.seizes id host id [] a l.leaves };
                  has = record { notes = λ at row x n. inr (c.notes at row x n); readers = λ at row x n. inr (c.readers at row x n) };
                });
          }
      tries-with (Err spent) e =
          skips (one_more p) (job_ends.Gave (p.tries + 1) (causes.Spent spent.seen)) first
          (record { tasks = s.tasks; notes_low = s.notes_low; readers_low = s.readers_low }) c

      pub tries : Safe (try_task script host job.task rest p)
      tries = tries-with (draw host p.seen) refl

      tries-as : (task : Task) → job.task ≡ task → Safe (try_task script host task rest p)
      tries-as task same = subst (λ (t : Task). Safe (try_task script host t rest p)) same tries

      parts-begin : (task : Task) → job.task ≡ task → (r : Result (List RowPart) PartsFault) → Safe (try_parts script host task rest p r)
      parts-begin task same (Ok parts) = tries-as task same
      parts-begin task same (Err fault) = skips p (parts_end fault) first s c

      loses : (bay : BayNo) (gone : Option Gone) → Safe (lose_job rest p bay gone)
      loses bay None = record { sound = record { tasks = s.tasks; notes_low = s.notes_low; readers_low = s.readers_low }; work = c }
      loses bay (Some gone) = skips p (job_ends.StillMissing gone.bay) first s c

      fits-one : (bay : BayNo) (lost : Bool) → Safe (fit_job rest p bay lost)
      fits-one bay true = record { sound = record { tasks = s.tasks; notes_low = s.notes_low; readers_low = s.readers_low }; work = c }
      fits-one bay false = skips p (job_ends.NotLost bay) first s c

      rebuilds : (bay : BayNo) → job.task ≡ tasks.Rebuild bay → (fitted : Bool) → Safe (rebuild_job script host rest p bay fitted)
      rebuilds bay same true = tries-as (tasks.Rebuild bay) same
      rebuilds bay same false = skips p (job_ends.NotFitted bay) first s c

      starts-as : (task : Task) → job.task ≡ task → Safe (start_task script host rest p task)
      starts-as (tasks.Read object begin count) same = parts-begin (tasks.Read object begin count) same (parts_of script object begin count)
      starts-as (tasks.Write object begin from count) same = parts-begin (tasks.Write object begin from count) same (parts_of script object begin count)
      starts-as (tasks.Recover at) same = tries-as (tasks.Recover at) same
      starts-as (tasks.Lose bay) same = loses bay p.gone
      starts-as (tasks.Fit bay) same = fits-one bay (is_gone bay false p.gone)
      starts-as (tasks.Rebuild bay) same = rebuilds bay same (is_gone bay true p.gone)

      pub starts : Safe (start_task script host rest p job.task)
      starts = starts-as job.task refl

    pub start-safe : (jobs : List Job) → GoesOn jobs (start_jobs script host jobs)
    start-safe [] p none s c = record { sound = record { tasks = s.tasks; notes_low = s.notes_low; readers_low = s.readers_low }; work = c }
    start-safe (job ∷ jobs) p first s c = starts (start_jobs script host jobs) job jobs (start-safe jobs) p first s c

    -- A job ends
    on-safe : (q : Progress) (stopped : Bool) → Sound (next_job q) → AllCovered q.endings → Safe (go_on script host q stopped)
    on-safe q true s c = record { sound = record { tasks = s.tasks; notes_low = s.notes_low; readers_low = s.readers_low }; work = c }
    on-safe q false s c = start-safe (drop 1 q.jobs) (next_job q) refl s c

    ended-with : (p : Progress) (e : JobEnd) (read : List Content) → Sound p → AllCovered (with_ending p e read).endings → Safe (job_ended script host p e read)
    ended-with p e read s c = on-safe (with_ending p e read) (stops p) (next-sound p e read s) c

    pub ended-safe : (p : Progress) (e : JobEnd) (read : List Content) → Sound p → AllCovered p.endings → Safe (job_ended script host p e read)
    ended-safe p e read s c = ended-with p e read s (all-more p.endings (endings_of p.jobs e read p) c)

    again-safe : (p : Progress) (js : List Job) → p.jobs ≡ js → Sound p → AllCovered p.endings → Safe (try_again script host p (task_of js))
    again-safe p [] same s c = record { sound = record { tasks = s.tasks; notes_low = s.notes_low; readers_low = s.readers_low }; work = c }
    again-safe p (job ∷ jobs) same s c =
        tries (start_jobs script host (drop 1 p.jobs)) job jobs
        (λ q left sound all. start-safe (drop 1 p.jobs) q (left ∙ sym (ap (drop 1) same)) sound all)
        p same s c

    more-safe : (p later : Progress) → later.jobs ≡ p.jobs → Sound p → Sound later → AllCovered p.endings → AllCovered later.endings → (stopped : Bool) → Safe (once_more script host p later stopped)
    more-safe p later same s t c d true = ended-safe p (job_ends.Gave p.tries causes.Quit) [] s c
    more-safe p later same s t c d false = again-safe later p.jobs same t d

    refused-safe : (p : Progress) (cause : Cause) → Sound p → AllCovered p.endings → (last : Bool) → Safe (attempt_refused script host p cause last)
    refused-safe p cause s c true = ended-safe p (job_ends.Gave p.tries cause) [] s c
    refused-safe p cause s c false = more-safe p p refl s s c c (stops p)

    mended-safe : (p : Progress) → Sound p → AllCovered p.endings → (last : Bool) → Safe (row_mended script host p last)
    mended-safe p s c true = ended-safe (record p { gone = None }) job_ends.Rebuilt [] (record { tasks = s.tasks; notes_low = s.notes_low; readers_low = s.readers_low }) c
    mended-safe p s c false = more-safe p (next_row p) refl s (record { tasks = s.tasks; notes_low = s.notes_low; readers_low = s.readers_low }) c c (stops p)

    -- an attempt ends: it seizes, or it holds nothing, or its job has an ending that may leave
    seized-covered : (endings : List Ending) (calls : List Call) (id : Number) (aim : Aim) (held : List Holding) → Has endings calls id aim true held → AllCovered endings
    seized-covered endings calls id aim held h = record { notes = λ at row x n. by at row x (h.notes at row x n); readers = λ at row x n. by at row x (h.readers at row x n) }
      where
        by : {P : Type 0} (at : BayNo) (row : RowNo) (x : Number) → (Mine id true held calls at row x × P) ⊎ Covered endings x → Covered endings x
        by at row x (inl m) = absurd (let bad : true ≡ false = (m.0).plain in cc)
        by at row x (inr c) = c

    freed-covered : (endings : List Ending) (calls : List Call) (id : Number) (aim : Aim) (seizes : Bool) (held : List Holding) → held ≡ [] → Has endings calls id aim seizes held → AllCovered endings
    freed-covered endings calls id aim seizes held none h = record { notes = λ at row x n. by at row x (h.notes at row x n); readers = λ at row x n. by at row x (h.readers at row x n) }
      where
        by : {P : Type 0} (at : BayNo) (row : RowNo) (x : Number) → (Mine id seizes held calls at row x × P) ⊎ Covered endings x → Covered endings x
        by at row x (inl m) = absurd (subst (λ (hs : List Holding). Holds (on at row) hs) none (m.0).holds)
        by at row x (inr c) = c

    left-covered : (p : Progress) (job : Job) (jobs : List Job) → p.jobs ≡ job ∷ jobs → (id : Number) (aim : Aim) (seizes : Bool) (held : List Holding) (e : JobEnd) (read : List Content) → MayLeave script host job.task p.calls e →
        Has p.endings p.calls id aim seizes held → AllCovered (with_ending p e read).endings
    left-covered p job jobs first id aim seizes held e read leave h = record { notes = λ at row x n. by at row x (h.notes at row x n); readers = λ at row x n. by at row x (h.readers at row x n) }
      where
        ended : (x : Number) → HasId x p.calls → HasLeft script host x (endings_of p.jobs e read p)
        ended x called = subst (λ (js : List Job). HasLeft script host x (endings_of js e read p)) (sym first) (inl (called, leave))

        by : {P : Type 0} (at : BayNo) (row : RowNo) (x : Number) → (Mine id seizes held p.calls at row x × P) ⊎ Covered p.endings x → Covered (with_ending p e read).endings x
        by at row x (inl m) =
            inl (left-last script host x p.endings (endings_of p.jobs e read p) (ended x (subst (λ (y : Number). HasId y p.calls) (sym (m.0).own) (m.0).called)))
        by at row x (inr c) = covered-more p.endings (endings_of p.jobs e read p) x c

    module _ (p : Progress) (job : Job) (jobs : List Job) (first : p.jobs ≡ job ∷ jobs) (s : Sound p) where
      seizing-safe : (read : List Content) (result : Ended) → AllCovered p.endings → Safe (attempt_ended script host p read result)
      seizing-safe read (ends.Read n) c = ended-safe p (job_ends.Read n) read s c
      seizing-safe read (ends.Wrote n) c = ended-safe p (job_ends.Wrote n) [] s c
      seizing-safe read (ends.Part n made cause) c = ended-safe p (job_ends.Part n made cause) [] s c
      seizing-safe read (ends.Recovered n closed lost) c = ended-safe p (job_ends.Recovered n closed lost) [] s c
      seizing-safe read (ends.Refused cause) c = refused-safe p cause s c ((p.tries == script.tries) || is_spent cause)
      seizing-safe read ends.Mended c = mended-safe p s c (p.row + 1 == script.rows)

      attempt-safe : (id : Number) (aim : Aim) (seizes : Bool) (held : List Holding) → Has p.endings p.calls id aim seizes held → (read : List Content) (result : Ended) → EndsWell seizes held result →
          Safe (attempt_ended script host p read result)
      attempt-safe id aim true held h read result well = seizing-safe read result (seized-covered p.endings p.calls id aim held h)
      attempt-safe id aim false held h read (ends.Part n made cause) well =
          ended-with p (job_ends.Part n made cause) [] s (left-covered p job jobs first id aim false held (job_ends.Part n made cause) [] tt h)
      attempt-safe id aim false held h read (ends.Read n) well = seizing-safe read (ends.Read n) (freed-covered p.endings p.calls id aim false held well h)
      attempt-safe id aim false held h read (ends.Wrote n) well = seizing-safe read (ends.Wrote n) (freed-covered p.endings p.calls id aim false held well h)
      attempt-safe id aim false held h read (ends.Recovered n closed lost) well = seizing-safe read (ends.Recovered n closed lost) (freed-covered p.endings p.calls id aim false held well h)
      attempt-safe id aim false held h read (ends.Refused cause) well = seizing-safe read (ends.Refused cause) (freed-covered p.endings p.calls id aim false held well h)
      attempt-safe id aim false held h read ends.Mended well = seizing-safe read ends.Mended (freed-covered p.endings p.calls id aim false held well h)

      -- its host stops
      stopped-covered : (id : Number) (aim : Aim) (seizes : Bool) (held : List Holding) (stop : Ended) → StopsWell seizes stop → WasUnderWay script host job.task p.calls → Has p.endings p.calls id aim seizes held →
          AllCovered (with_ending p (quit_end p.tries stop) []).endings
      stopped-covered id aim true held stop well under h = all-more p.endings (endings_of p.jobs (quit_end p.tries stop) [] p) (seized-covered p.endings p.calls id aim held h)
      stopped-covered id aim false held (ends.Read n) well under h = absurd well
      stopped-covered id aim false held (ends.Wrote n) well under h = absurd well
      stopped-covered id aim false held (ends.Recovered n closed lost) well under h = absurd well
      stopped-covered id aim false held (ends.Part n made cause) well under h = left-covered p job jobs first id aim false held (job_ends.Part n made cause) [] tt h
      stopped-covered id aim false held (ends.Refused cause) well under h = left-covered p job jobs first id aim false held (job_ends.Gave p.tries causes.Quit) [] (tt, under) h
      stopped-covered id aim false held ends.Mended well under h = left-covered p job jobs first id aim false held (job_ends.Gave p.tries causes.Quit) [] (tt, under) h

    -- steps that are left
    pub left-safe : (p : Progress) → Sound p → (js : List Job) → p.jobs ≡ js → (steps : Steps Finish) → draws steps ≡ false → IsLed script host js p.calls p.seen steps → TriesWork js p.endings p.calls p.seen steps → Safe (steps_left script host p steps)
    left-safe p s [] same steps none led f = absurd f
    left-safe p s (job ∷ jobs) same (Asks e t c k) none led f = go (stops p)
      where
        go : (stopped : Bool) → Safe (asks_on p (Asks e t c k) t stopped)
        go true =
            let n = next-sound p (quit_end p.tries t) [] s in
            record {
              sound = record { tasks = n.tasks; notes_low = n.notes_low; readers_low = n.readers_low };
              work = stopped-covered p job jobs same s f.id (f.leaving).aim (f.leaving).seizes f.held t (f.leaving).leaves.1 (under-way script host job jobs p.calls p.seen e t c k led) f.has;
            }
        go false = record {
          sound = record { tasks = s.tasks; notes_low = s.notes_low; readers_low = s.readers_low };
          work = subst (λ (xs : List Job). TriesWork xs p.endings p.calls p.seen (Asks e t c k)) (sym same) f;
        }
    left-safe p s (job ∷ jobs) same (Draws k) none led f = absurd (let bad : true ≡ false = none in cc)
    left-safe p s (job ∷ jobs) same (Ends f) none led h =
        attempt-safe p job jobs same s h.id (h.leaving).aim (h.leaving).seizes h.held h.has f.contents f.ended (h.leaving).leaves

    -- before its first job
    pub begins-safe : AllByRecursion (λ (job : Job). IsTask script host job.task) (jobs_of script host) →
        ((at : BayNo) (row : RowNo) (x : Number) → N at row x → ⊥) → ((at : BayNo) (row : RowNo) (x : Number) → R at row x → ⊥) → Safe (at_start script host)
    begins-safe tasks none bare =
        start-safe (jobs_of script host) _ refl (record { tasks = tasks; notes_low = λ at row x n. absurd (none at row x n); readers_low = λ at row x n. absurd (bare at row x n) })
        (record { notes = λ at row x n. absurd (none at row x n); readers = λ at row x n. absurd (bare at row x n) })

  -- A call of the host
  module _ (N R N' R' : BayNo → RowNo → Number → Type 0) (S S' : Number → Type 0) where
    abbrev pub GonePut : PutEnd → BayNo → RowNo → Number → Type 0
    GonePut Made bay row id = N' bay row id → ⊥
    GonePut (Unnoted life) bay row id = N' bay row id → ⊥
    GonePut Failed bay row id = Unit {0}

    abbrev pub Gone_by : BayNo → Request → Reply → Type 0
    Gone_by bay (Share row id want) r = Unit {0}
    Gone_by bay (Claim row id how mask want) r = Unit {0}
    Gone_by bay (Confirm row id want) r = Unit {0}
    Gone_by bay (Put row id n cell) r = GonePut (put_end r) bay row id
    Gone_by bay (Release row id n) r = (N' bay row id → ⊥) × (R' bay row id → ⊥)
    Gone_by bay Lose r = Unit {0}
    Gone_by bay Fit r = Unit {0}

    -- what a call does to notes and readers
    pub record Moves (bay : BayNo) (what : Request) (r : Reply) : Type 0 where
      pub notes : (at : BayNo) (row : RowNo) (x : Number) → N' at row x → N at row x ⊎ NewNote bay what r at row x
      pub readers : (at : BayNo) (row : RowNo) (x : Number) → R' at row x → R at row x ⊎ NewReader script.mode bay what r at row x
      pub gone : Gone_by bay what r
      pub stays : (x : Number) → S x → S' x
      pub seizes : (row : RowNo) (x : Number) (mask : ℕ) (want : Bool) → what ≡ Claim row x Seize mask want → S' x

    -- and one of another host
    pub record Leaves_be : Type 0 where
      pub notes : (at : BayNo) (row : RowNo) (x : Number) → N' at row x → N at row x
      pub readers : (at : BayNo) (row : RowNo) (x : Number) → R' at row x → R at row x
      pub stays : (x : Number) → S x → S' x

    covers : ((x : Number) → S x → S' x) → (endings : List Ending) (x : Number) → Covered N R S endings x → Covered N' R' S' endings x
    covers stays endings x (inl h) = inl h
    covers stays endings x (inr h) = inr (stays x h)

    all-covers : Leaves_be → (endings : List Ending) → AllCovered N R S endings → AllCovered N' R' S' endings
    all-covers b endings c = record {
      notes = λ at row x n. covers b.stays endings x (c.notes at row x (b.notes at row x n));
      readers = λ at row x n. covers b.stays endings x (c.readers at row x (b.readers at row x n));
    }

    sound-be : Leaves_be → (p : Progress) → Sound N R S p → Sound N' R' S' p
    sound-be b p s = record {
      tasks = s.tasks;
      notes_low = λ at row x n. s.notes_low at row x (b.notes at row x n);
      readers_low = λ at row x n. s.readers_low at row x (b.readers at row x n);
    }

    mine-be : {P : Type 0} (stays : (x : Number) → S x → S' x) (endings : List Ending) (calls : List Call) (id : Number) (seizes : Bool) (held : List Holding) (at : BayNo) (row : RowNo) (x : Number) →
        (Mine N R S id seizes held calls at row x × P) ⊎ Covered N R S endings x → (Mine N' R' S' id seizes held calls at row x × P) ⊎ Covered N' R' S' endings x
    mine-be stays endings calls id seizes held at row x (inl m) = inl (record { own = (m.0).own; plain = (m.0).plain; holds = (m.0).holds; called = (m.0).called }, m.1)
    mine-be stays endings calls id seizes held at row x (inr c) = inr (covers stays endings x c)

    work-be : Leaves_be → (jobs : List Job) (endings : List Ending) (calls : List Call) (seen : Number) (work : Work) → SafeWork N R S jobs endings calls seen work → SafeWork N' R' S' jobs endings calls seen work
    work-be b [] endings calls seen (Trying steps) w = w
    work-be b (job ∷ jobs) endings calls seen (Trying steps) w = record {
      id = w.id;
      low = w.low;
      held = w.held;
      leaving = w.leaving;
      has = record {
        notes = λ at row x n. mine-be b.stays endings calls w.id (w.leaving).seizes w.held at row x ((w.has).notes at row x (b.notes at row x n));
        readers = λ at row x n. mine-be b.stays endings calls w.id (w.leaving).seizes w.held at row x ((w.has).readers at row x (b.readers at row x n));
      };
    }
    work-be b jobs endings calls seen (Losing bay) w = all-covers b endings w
    work-be b jobs endings calls seen (Fitting bay) w = all-covers b endings w
    work-be b jobs endings calls seen Over w = all-covers b endings w

    pub safe-be : Leaves_be → (p : Progress) → Safe N R S p → Safe N' R' S' p
    safe-be b p s = record { sound = sound-be b p s.sound; work = work-be b p.jobs p.endings p.calls p.seen p.work s.work }

    -- an attempt is told a reply
    module _ (endings : List Ending) (call : Call) (calls : List Call) (id : Number) (aim : Aim) (seizes : Bool) (held : List Holding) where
      abbrev r : Reply
      r = call.answer.reply

      abbrev later : Request → List Holding
      later what = held_after script.mode held call.bay what call.answer.reply

      has-id : (what : Request) (by : Number) → call.ask.what ≡ what → id_of what ≡ Some by → by ≡ id → HasId id (call ∷ calls)
      has-id what by same is own = inl (ap (λ (w : Request). id_of w) same ∙ is ∙ ap (λ (y : Number). Some y) own)

      -- a new note
      new-note : (what : Request) → call.ask.what ≡ what → Moves call.bay what r → IsAsked script.mode (Aims aim) seizes id call.bay what → (at : BayNo) (row : RowNo) (x : Number) →
          NewNote call.bay what r at row x → (Mine N' R' S' id seizes (later what) (call ∷ calls) at row x × Aims aim at row) ⊎ Covered N' R' S' endings x
      new-note (Share row' by want) same m a at row x n = absurd n
      new-note (Claim row' by how mask want) same m a at row x n = one seizes refl a.2
        where
          one : (b : Bool) → seizes ≡ b → IfSeizes b how → (Mine N' R' S' id seizes (later (Claim row' by how mask want)) (call ∷ calls) at row x × Aims aim at row) ⊎ Covered N' R' S' endings x
          one true e seize = inr (inr (subst (λ (y : Number). S' y) n.2 (m.seizes row' by mask want (ap (λ (h : How). Claim row' by h mask want) seize))))
          one false e seize = inl (
            record {
              own = sym n.2 ∙ a.0;
              plain = e;
              holds = subst (λ (b : BayNo). Holds (on b row) (later (Claim row' by how mask want))) n.0
                  (subst (λ (w : RowNo). Holds (on call.bay w) (later (Claim row' by how mask want))) n.1 (claimed-new (on call.bay row') (grant_of r) held n.3));
              called = has-id (Claim row' by how mask want) by same refl a.0;
            },
            subst (λ (b : BayNo). Aims aim b row) n.0 (subst (λ (w : RowNo). Aims aim call.bay w) n.1 a.1),
          )
      new-note (Confirm row' by want) same m a at row x n = absurd n
      new-note (Put row' by k cell) same m a at row x n = absurd n
      new-note (Release row' by k) same m a at row x n = absurd n
      new-note Lose same m a at row x n = absurd n
      new-note Fit same m a at row x n = absurd n

      -- a new reader
      new-reader : (what : Request) → call.ask.what ≡ what → IsAsked script.mode (Aims aim) seizes id call.bay what → (at : BayNo) (row : RowNo) (x : Number) →
          NewReader script.mode call.bay what r at row x → Mine N' R' S' id seizes (later what) (call ∷ calls) at row x × (Aims aim at row → ⊥)
      new-reader (Share row' by want) same a at row x n = (
        record {
          own = sym n.2 ∙ a.0;
          plain = a.1;
          holds = subst (λ (b : BayNo). Holds (on b row) (later (Share row' by want))) n.0
              (subst (λ (w : RowNo). Holds (on call.bay w) (later (Share row' by want))) n.1
              (subst (λ (m : Mode). Holds (on call.bay row') (held_after m held call.bay (Share row' by want) call.answer.reply)) (sym n.4) (claimed-new (on call.bay row') (grant_of r) held n.3)));
          called = has-id (Share row' by want) by same refl a.0;
        },
        λ aimed. a.2 (subst (λ (w : RowNo). Aims aim call.bay w) (sym n.1) (subst (λ (b : BayNo). Aims aim b row) (sym n.0) aimed)),
      )
      new-reader (Claim row' by how mask want) same a at row x n = absurd n
      new-reader (Confirm row' by want) same a at row x n = absurd n
      new-reader (Put row' by k cell) same a at row x n = absurd n
      new-reader (Release row' by k) same a at row x n = absurd n
      new-reader Lose same a at row x n = absurd n
      new-reader Fit same a at row x n = absurd n

      -- what is given back has neither
      same-on : (at bay : BayNo) (row row' : RowNo) → is_slot (on at row) (on bay row') ≡ true → (at ≡ bay) × (row ≡ row')
      same-on at bay row row' e =
          let b : at.0 ≡ bay.0 = grind (arith, nat_tests) in
          let w : row.0 ≡ row'.0 = grind (arith, nat_tests) in
          (ap (λ (k : ℕ). record { 0 = k }) b, ap (λ (k : ℕ). record { 0 = k }) w)

      there : (P : BayNo → RowNo → Number → Type 0) (at bay : BayNo) (row row' : RowNo) (x by : Number) → is_slot (on at row) (on bay row') ≡ true → x ≡ by → P at row x → P bay row' by
      there P at bay row row' x by e same h =
          let s = same-on at bay row row' e in
          subst (λ (y : Number). P bay row' y) same (subst (λ (w : RowNo). P bay w x) s.1 (subst (λ (b : BayNo). P b row x) s.0 h))

      put-none : (p : PutEnd) (row' : RowNo) (by : Number) → GonePut p call.bay row' by → GivesPut p → N' call.bay row' by → ⊥
      put-none Made row' by g give n = g n
      put-none (Unnoted life) row' by g give n = g n
      put-none Failed row' by g give n = give

      note-kept : (what : Request) → Gone_by call.bay what r → IsAsked script.mode (Aims aim) seizes id call.bay what → (at : BayNo) (row : RowNo) (x : Number) → x ≡ id → N' at row x →
          Gives call.bay what r (on at row) → ⊥
      note-kept (Share row' by want) g a at row x own n give = give
      note-kept (Claim row' by how mask want) g a at row x own n give = give
      note-kept (Confirm row' by want) g a at row x own n give = give
      note-kept (Put row' by k cell) g a at row x own n give = put-none (put_end r) row' by g give.1 (there N' at call.bay row row' x by give.0 (own ∙ sym a.0) n)
      note-kept (Release row' by k) g a at row x own n give = g.0 (there N' at call.bay row row' x by give (own ∙ sym a) n)
      note-kept Lose g a at row x own n give = give
      note-kept Fit g a at row x own n give = give

      reader-kept : (what : Request) → Gone_by call.bay what r → IsAsked script.mode (Aims aim) seizes id call.bay what → (at : BayNo) (row : RowNo) (x : Number) → x ≡ id → (Aims aim at row → ⊥) → R' at row x →
          Gives call.bay what r (on at row) → ⊥
      reader-kept (Share row' by want) g a at row x own free n give = give
      reader-kept (Claim row' by how mask want) g a at row x own free n give = give
      reader-kept (Confirm row' by want) g a at row x own free n give = give
      reader-kept (Put row' by k cell) g a at row x own free n give =
          let s = same-on at call.bay row row' give.0 in
          free (subst (λ (w : RowNo). Aims aim at w) (sym s.1) (subst (λ (b : BayNo). Aims aim b row') (sym s.0) a.1))
      reader-kept (Release row' by k) g a at row x own free n give = g.1 (there R' at call.bay row row' x by give (own ∙ sym a) n)
      reader-kept Lose g a at row x own free n give = give
      reader-kept Fit g a at row x own free n give = give

      told-has : (what : Request) → call.ask.what ≡ what → Moves call.bay what r → IsAsked script.mode (Aims aim) seizes id call.bay what → Has N R S endings calls id aim seizes held →
          Has N' R' S' endings (call ∷ calls) id aim seizes (later what)
      told-has what same m a h = record { notes = λ at row x n. note at row x n (m.notes at row x n); readers = λ at row x n. reader at row x n (m.readers at row x n) }
        where
          old-note : (at : BayNo) (row : RowNo) (x : Number) → N' at row x → (Mine N R S id seizes held calls at row x × Aims aim at row) ⊎ Covered N R S endings x →
              (Mine N' R' S' id seizes (later what) (call ∷ calls) at row x × Aims aim at row) ⊎ Covered N' R' S' endings x
          old-note at row x n (inr c) = inr (covers m.stays endings x c)
          old-note at row x n (inl k) = inl (
            record {
              own = (k.0).own;
              plain = (k.0).plain;
              holds = after-holds script.mode (on at row) held call.bay what r (note-kept what m.gone a at row x (k.0).own n) (k.0).holds;
              called = inr (k.0).called;
            },
            k.1,
          )

          note : (at : BayNo) (row : RowNo) (x : Number) → N' at row x → N at row x ⊎ NewNote call.bay what r at row x →
              (Mine N' R' S' id seizes (later what) (call ∷ calls) at row x × Aims aim at row) ⊎ Covered N' R' S' endings x
          note at row x n (inr new) = new-note what same m a at row x new
          note at row x n (inl old) = old-note at row x n (h.notes at row x old)

          old-reader : (at : BayNo) (row : RowNo) (x : Number) → R' at row x → (Mine N R S id seizes held calls at row x × (Aims aim at row → ⊥)) ⊎ Covered N R S endings x →
              (Mine N' R' S' id seizes (later what) (call ∷ calls) at row x × (Aims aim at row → ⊥)) ⊎ Covered N' R' S' endings x
          old-reader at row x n (inr c) = inr (covers m.stays endings x c)
          old-reader at row x n (inl k) = inl (
            record {
              own = (k.0).own;
              plain = (k.0).plain;
              holds = after-holds script.mode (on at row) held call.bay what r (reader-kept what m.gone a at row x (k.0).own k.1 n) (k.0).holds;
              called = inr (k.0).called;
            },
            k.1,
          )

          reader : (at : BayNo) (row : RowNo) (x : Number) → R' at row x → R at row x ⊎ NewReader script.mode call.bay what r at row x →
              (Mine N' R' S' id seizes (later what) (call ∷ calls) at row x × (Aims aim at row → ⊥)) ⊎ Covered N' R' S' endings x
          reader at row x n (inr new) = inl (new-reader what same a at row x new)
          reader at row x n (inl old) = old-reader at row x n (h.readers at row x old)

    -- numbers stay low
    new-low : (seizes : Bool) (aim : Aim) (id seen : Number) (bay : BayNo) (what : Request) (r : Reply) → id.0 ≤ seen.0 → IsAsked script.mode (Aims aim) seizes id bay what → (at : BayNo) (row : RowNo) (x : Number) →
        NewNote bay what r at row x ⊎ NewReader script.mode bay what r at row x → x.0 ≤ seen.0
    new-low seizes aim id seen bay (Share row' by want) r low a at row x (inl n) = absurd n
    new-low seizes aim id seen bay (Share row' by want) r low a at row x (inr n) = subst (λ (y : Number). y.0 ≤ seen.0) (sym a.0 ∙ n.2) low
    new-low seizes aim id seen bay (Claim row' by how mask want) r low a at row x (inl n) = subst (λ (y : Number). y.0 ≤ seen.0) (sym a.0 ∙ n.2) low
    new-low seizes aim id seen bay (Claim row' by how mask want) r low a at row x (inr n) = absurd n
    new-low seizes aim id seen bay (Confirm row' by want) r low a at row x (inl n) = absurd n
    new-low seizes aim id seen bay (Confirm row' by want) r low a at row x (inr n) = absurd n
    new-low seizes aim id seen bay (Put row' by k cell) r low a at row x (inl n) = absurd n
    new-low seizes aim id seen bay (Put row' by k cell) r low a at row x (inr n) = absurd n
    new-low seizes aim id seen bay (Release row' by k) r low a at row x (inl n) = absurd n
    new-low seizes aim id seen bay (Release row' by k) r low a at row x (inr n) = absurd n
    new-low seizes aim id seen bay Lose r low a at row x (inl n) = absurd n
    new-low seizes aim id seen bay Lose r low a at row x (inr n) = absurd n
    new-low seizes aim id seen bay Fit r low a at row x (inl n) = absurd n
    new-low seizes aim id seen bay Fit r low a at row x (inr n) = absurd n

    told-low : (seen later : Number) → seen.0 ≤ later.0 → (at : BayNo) (row : RowNo) (x : Number) (P Q : Type 0) → (P → x.0 ≤ seen.0) → (Q → x.0 ≤ seen.0) → P ⊎ Q → x.0 ≤ later.0
    told-low seen later more at row x P Q f g (inl n) = let h = f n in omega (arith, h, more)
    told-low seen later more at row x P Q f g (inr n) = let h = g n in omega (arith, h, more)

    tells-safe : (p : Progress) (call : Call) (js : List Job) (steps : Steps Finish) → p.jobs ≡ js → next_errand steps ≡ Some (errand_of call) → fits call.ask.what call.answer.reply ≡ true →
        Moves call.bay call.ask.what call.answer.reply → Sound N R S p → IsLed script host js p.calls p.seen steps → TriesWork N R S js p.endings p.calls p.seen steps →
        Safe N' R' S' (work_told script host (call_counted p call) call.answer.reply (Trying steps))
    tells-safe p call [] steps same asked fit m s led w = absurd w
    tells-safe p call (job ∷ jobs) steps same asked fit m s led w =
        let before : Standing Finish = record { seen = p.seen; steps = steps } in
        let now : Standing Finish = told host before call.answer.reply in
        let more : p.seen.0 ≤ now.seen.0 = (seen-covers host before (call ∷ []) now (asked, refl)).kept in
        let l = w.leaving in
        let t = told-leaves script.mode (Aims l.aim) l.seizes w.id w.held steps (errand_of call) call.answer.reply l.leaves asked fit in
        left-safe N' R' S' (record (call_counted p call) { seen = now.seen })
        (record {
          tasks = s.tasks;
          notes_low = λ at row x n. told-low p.seen now.seen more at row x (N at row x) (NewNote call.bay call.ask.what call.answer.reply at row x) (λ o. s.notes_low at row x o)
              (λ k. new-low l.seizes l.aim w.id p.seen call.bay call.ask.what call.answer.reply w.low t.asked at row x (inl k)) (m.notes at row x n);
          readers_low = λ at row x n. told-low p.seen now.seen more at row x (R at row x) (NewReader script.mode call.bay call.ask.what call.answer.reply at row x) (λ o. s.readers_low at row x o)
              (λ k. new-low l.seizes l.aim w.id p.seen call.bay call.ask.what call.answer.reply w.low t.asked at row x (inr k)) (m.readers at row x n);
        })
        (job ∷ jobs) same now.steps (settled-drawn host (sees p.seen call.answer.reply) (behind steps call.answer.reply))
        (led-on script host (job ∷ jobs) p.calls p.seen steps call asked fit led)
        (record {
          id = w.id;
          low = let low = w.low in omega (arith, low, more);
          held = held_after script.mode w.held call.bay call.ask.what call.answer.reply;
          leaving = record {
            aim = l.aim;
            seizes = l.seizes;
            leaves = settled-leaves script.mode (Aims l.aim) l.seizes w.id host (sees p.seen call.answer.reply) (held_after script.mode w.held call.bay call.ask.what call.answer.reply)
                (behind steps call.answer.reply) t.leaves;
          };
          has = told-has p.endings call p.calls w.id l.aim l.seizes w.held call.ask.what refl m t.asked w.has;
        })

    -- a request that is a job of its own brings none
    be-from : (bay : BayNo) (what : Request) (r : Reply) → ((at : BayNo) (row : RowNo) (x : Number) → NewNote bay what r at row x → ⊥) →
        ((at : BayNo) (row : RowNo) (x : Number) → NewReader script.mode bay what r at row x → ⊥) → Moves bay what r → Leaves_be
    be-from bay what r none bare m = record {
      notes = λ at row x n. left (N at row x) (NewNote bay what r at row x) (none at row x) (m.notes at row x n);
      readers = λ at row x n. left (R at row x) (NewReader script.mode bay what r at row x) (bare at row x) (m.readers at row x n);
      stays = m.stays;
    }
      where
        left : (P Q : Type 0) → (Q → ⊥) → P ⊎ Q → P
        left P Q f (inl h) = h
        left P Q f (inr h) = absurd (f h)

    lose-be : (bay : BayNo) (what : Request) (r : Reply) → what ≡ Lose → Moves bay what r → Leaves_be
    lose-be bay what r same m =
        be-from bay what r (λ at row x n. subst (λ (w : Request). NewNote bay w r at row x) same n) (λ at row x n. subst (λ (w : Request). NewReader script.mode bay w r at row x) same n) m

    fit-be : (bay : BayNo) (what : Request) (r : Reply) → what ≡ Fit → Moves bay what r → Leaves_be
    fit-be bay what r same m =
        be-from bay what r (λ at row x n. subst (λ (w : Request). NewNote bay w r at row x) same n) (λ at row x n. subst (λ (w : Request). NewReader script.mode bay w r at row x) same n) m

    pub work-safe : (p : Progress) (call : Call) (work : Work) → work_errand work ≡ Some (errand_of call) → fits call.ask.what call.answer.reply ≡ true →
        Moves call.bay call.ask.what call.answer.reply → Sound N R S p → IsWorkLed script host p.jobs p.calls p.seen work → SafeWork N R S p.jobs p.endings p.calls p.seen work →
        Safe N' R' S' (work_told script host (call_counted p call) call.answer.reply work)
    work-safe p call (Trying steps) asked fit m s led w = tells-safe p call p.jobs steps refl asked fit m s led w
    work-safe p call (Losing bay) asked fit m s led w =
        let same : record { bay = bay; request = Lose } ≡ errand_of call = cc in
        let b = lose-be call.bay call.ask.what call.answer.reply (ap (λ (e : Errand). e.request) (sym same)) m in
        let t = sound-be b p s in
        ended-safe N' R' S' (record (call_counted p call) { gone = Some (record { bay = bay; fitted = false }) }) job_ends.Lost []
        (record { tasks = t.tasks; notes_low = t.notes_low; readers_low = t.readers_low }) (all-covers b p.endings w)
    work-safe p call (Fitting bay) asked fit m s led w =
        let same : record { bay = bay; request = Fit } ≡ errand_of call = cc in
        let b = fit-be call.bay call.ask.what call.answer.reply (ap (λ (e : Errand). e.request) (sym same)) m in
        let t = sound-be b p s in
        ended-safe N' R' S' (record (call_counted p call) { gone = Some (record { bay = bay; fitted = true }) }) job_ends.Fitted []
        (record { tasks = t.tasks; notes_low = t.notes_low; readers_low = t.readers_low }) (all-covers b p.endings w)
    work-safe p call Over asked fit m s led w = absurd (cc)
