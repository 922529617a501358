-- A host alone, while it goes through its reads and writes: each is done at its first attempt.
use Rattle.std.proofs.Common.{◌≡◌, inl, inr, refl, sym, ap, subst, ◌∙◌, ℕ, ◌+◌, ◌<◌, ◌≤◌, ◌^◌, ◌==◌, ◌&&◌, ◌||◌, Bool, true, false, List, [], ◌∷◌, drop, Option, Some, None, Result, Ok, Err, arith}
use Rattle.std.specs.Prelude.{IsOk}
use Rattle.std.specs.List.{AllByRecursion}
use Rattle.std.proofs.lemmas.Bool.Decides.{nat_tests}
use Rattle.raid_base.specs.declared.numbers.BayNo.{BayNo}
use Rattle.raid_base.specs.declared.numbers.HostNo.{HostNo}
use Rattle.raid_base.specs.declared.numbers.RowNo.{RowNo}
use Rattle.raid_base.specs.declared.numbers.Number.{Number}
use Rattle.raid_base.specs.declared.numbers.Spent.{Spent}
use Rattle.raid_base.specs.declared.names.Name.{Name}
use Rattle.raid_base.specs.declared.cells.Content.{Content}
use Rattle.raid_base.specs.declared.messages.Mode.{Mode}
use Rattle.raid_base.specs.declared.messages.Note.{Note}
use Rattle.raid_base.specs.declared.messages.Call.{Call}
use Rattle.raid_base.specs.declared.messages.Errand.{Errand}
use Rattle.raid_base.specs.declared.messages.Request.{Request}
use Rattle.raid_base.specs.declared.messages.Request.TheVariants.{Share, Claim, Confirm, Put, Release, Lose, Fit}
use Rattle.raid_base.specs.declared.messages.Reply.{Reply}
use Rattle.raid_base.specs.declared.messages.Reply.TheVariants as replies
use Rattle.raid_base.specs.declared.jobs.Job.{Job}
use Rattle.raid_base.specs.declared.jobs.Task.{Task}
use Rattle.raid_base.specs.declared.jobs.Task.TheVariants as tasks
use Rattle.raid_base.specs.declared.jobs.RowPart.{RowPart}
use Rattle.raid_base.specs.declared.jobs.PartsFault.{PartsFault}
use Rattle.raid_base.specs.declared.jobs.Cause.{Cause}
use Rattle.raid_base.specs.declared.jobs.Ended.{Ended}
use Rattle.raid_base.specs.declared.jobs.Ended.TheVariants as ends
use Rattle.raid_base.specs.declared.jobs.JobEnd.{JobEnd}
use Rattle.raid_base.specs.declared.jobs.JobEnd.TheVariants as job_ends
use Rattle.raid_base.specs.Fits.{fits}
use Rattle.raid_base.specs.Numbers.{greater, draw, seen_drawn, sees_note, sees}
use Rattle.raid_base.specs.Steps.{Steps, Asks, Draws, Ends, Standing, draws, settled, told, behind, next_errand, errand_of}
use Rattle.slot_rules.specs.Slots.{Slot}
use Rattle.slot_rules.specs.Laws.{is_refused, is_row}
use Rattle.slot_rules.specs.Serving.{row_of}
use Rattle.attempts.specs.Taking.{Finish}
use Rattle.attempts.specs.Phases.{RowsDiffer}
use Rattle.attempts.specs.Numbering.{IsOrigin, ShowsNumber}
use Rattle.attempts.proofs.RoomLemmas.{all-append}
use Rattle.script_text.specs.Script.{Script, parts_of, blocks_of}
use Rattle.script_text.specs.Ranges.{IsScript, IsTask}
use Rattle.histories.specs.Plain.{task_parts}
use Rattle.histories.specs.Causes.{IsReadOrWrite}
use Rattle.histories.specs.Completeness.{IsDoneBy}
use Rattle.histories.specs.Smallness.{wants_numbers}
use Rattle.histories.specs.Progress.{Ending, Work, Trying, Losing, Fitting, Over, Progress, work_errand, endings_of, with_ending, next_job, access, attempt, read_of, write_of, try_with, one_more, try_task, parts_end, try_parts, start_task, start_jobs, stops_at, job_stops, stops, go_on, job_ended, is_spent, attempt_refused, attempt_ended, asks_on, steps_left, work_told, call_counted}
use Rattle.histories.proofs.smallness.SmallHosts.{IsNear, draws-near, sees-more}
use Rattle.histories.proofs.completeness.CompleteWalks.{Plainly, Does}
use Rattle.histories.proofs.completeness.CompleteHistory.{settled-plain, behind-plain, attempt-plain, without-parts}
use Rattle.histories.proofs.hands.PhasedHands.{found-parts, rows-differ}
use Rattle.attempt_laws.proofs.leftovers.LeftLeaves.{draw-more, settled-more}
use Rattle.attempt_laws.proofs.lone.LoneWalks.{Use, Untouched, act_of, used, Fine, IsOwn, is_mine, Smooth}
use Rattle.attempt_laws.proofs.lone.LoneReads.{reads-smooth}
use Rattle.attempt_laws.proofs.lone.LoneWrites.{writes-smooth}
use Rattle.attempt_laws.proofs.lone.LoneSlots.{SlotIs, IsIdle, idle-begins, ends-idle}

-- Numbers that replies show stay small
shown-small : (most : ℕ) (seen : Number) (note : Option Note) → seen.0 < most → ((n : Number) → IsOrigin note n → n.0 < most) → (sees_note seen note).0 < most
shown-small most seen None low h = low
shown-small most seen (Some note) low h = let more = h note.origin refl in omega (arith, low, more)

pub sees-small : (most : ℕ) (seen : Number) (r : Reply) → seen.0 < most → ((n : Number) → ShowsNumber r n → n.0 < most) → (sees seen r).0 < most
sees-small most seen (replies.Granted cell read_no write_no last life seized) low h =
    let read = h read_no (inl refl) in
    let write = h write_no (inr (inl refl)) in
    shown-small most (greater seen (greater read_no write_no)) seized (omega (arith, low, read, write)) (λ n is. h n (inr (inr is)))
sees-small most seen (replies.Late above) low h = let more = h above refl in omega (arith, low, more)
sees-small most seen (replies.Missing floor) low h = let more = h floor refl in omega (arith, low, more)
sees-small most seen (replies.Busy holder) low h = low
sees-small most seen (replies.Young note) low h = low
sees-small most seen (replies.Held cell) low h = low
sees-small most seen (replies.NoNote life) low h = low
sees-small most seen replies.Done low h = low
sees-small most seen replies.Fault low h = low
sees-small most seen replies.Emptied low h = low
sees-small most seen replies.Fitted low h = low

still : (host : HostNo) (seen : Number) (s : Steps Finish) → draws s ≡ false → settled host seen s ≡ record { seen = seen; steps = s }
still host seen (Asks e t c k) none = refl
still host seen (Draws k) none = cc
still host seen (Ends f) none = refl

-- once numbers were drawn
module _ (host : HostNo) (few : host.0 < 16) (mode : Mode) (id : Number) (at : BayNo) (row : RowNo) (state : Use) where
  pub settled-smooth : (seen : Number) (s : Steps Finish) → seen.0 + 16 < 2 ^ 62 → Smooth mode id at row state s → Smooth mode id at row state (settled host seen s).steps
  settled-smooth seen (Asks e t c k) room h = h
  settled-smooth seen (Draws k) room h =
      let near : IsNear host seen = draws-near host seen few room in
      subst (λ (d : Result Number Spent). Smooth mode id at row state (settled host (seen_drawn seen d) (k d)).steps) (sym near.drawn)
      (subst (λ (x : Standing Finish). Smooth mode id at row state x.steps) (sym (still host near.next (k (Ok near.next)) (h near.next).0)) (h near.next).1)
  settled-smooth seen (Ends f) room h = h

  pub settled-near : (seen : Number) (s : Steps Finish) → seen.0 + 16 < 2 ^ 62 → Smooth mode id at row state s → (settled host seen s).seen.0 ≤ seen.0 + 16
  settled-near seen (Asks e t c k) room h = omega arith
  settled-near seen (Draws k) room h =
      let near : IsNear host seen = draws-near host seen few room in
      subst (λ (d : Result Number Spent). (settled host (seen_drawn seen d) (k d)).seen.0 ≤ seen.0 + 16) (sym near.drawn)
      (subst (λ (x : Standing Finish). x.seen.0 ≤ seen.0 + 16) (sym (still host near.next (k (Ok near.next)) (h near.next).0)) near.near)
  settled-near seen (Ends f) room h = omega arith

drawn-same : (d : Result Number Spent) (x y : Number) → d ≡ Ok x → d ≡ Ok y → x ≡ y
drawn-same d x y e f = cc

never-spent : (d : Result Number Spent) (x : Number) (spent : Spent) → d ≡ Ok x → d ≡ Err spent → ⊥
never-spent d x spent e f = cc

-- a read or a write is not done so
never-gave : (task : Task) (tries : ℕ) (cause : Cause) → IsReadOrWrite task → IsDoneBy task (job_ends.Gave tries cause) → ⊥
never-gave (tasks.Read object first count) tries cause plain h = h
never-gave (tasks.Write object first from count) tries cause plain h = h
never-gave (tasks.Recover at) tries cause plain h = absurd plain
never-gave (tasks.Lose bay) tries cause plain h = absurd plain
never-gave (tasks.Fit bay) tries cause plain h = absurd plain
never-gave (tasks.Rebuild bay) tries cause plain h = absurd plain

never-rebuilt : (task : Task) → IsReadOrWrite task → IsDoneBy task job_ends.Rebuilt → ⊥
never-rebuilt (tasks.Read object first count) plain h = h
never-rebuilt (tasks.Write object first from count) plain h = h
never-rebuilt (tasks.Recover at) plain h = absurd plain
never-rebuilt (tasks.Lose bay) plain h = absurd plain
never-rebuilt (tasks.Fit bay) plain h = absurd plain
never-rebuilt (tasks.Rebuild bay) plain h = absurd plain

goes-on : (quit : Option ℕ) (asked : ℕ) → quit ≡ None → stops_at quit asked ≡ false
goes-on None asked none = refl
goes-on (Some k) asked none = cc

later-false : (a b : Bool) → (a || b) ≡ false → b ≡ false
later-false true b e = cc
later-false false b e = e

module _ (script : Script) (is : IsScript script) (host : HostNo) (few : host.0 < 16) where
  -- Attempts
  module _ (id : Number) (at : BayNo) (row : RowNo) where
    abbrev Begins : Steps Finish → Type 0
    Begins s = Smooth script.mode id at row Untouched s

    differ : (object : Name) (first count : ℕ) (parts : List RowPart) → 1 ≤ count → parts_of script object first count ≡ Ok parts → RowsDiffer parts
    differ object first count parts some ok = rows-differ parts (found-parts script is host id object first count parts some ok).rows_apart

    read-smooth : (object : Name) (first count : ℕ) → 1 ≤ count → (r : Result (List RowPart) PartsFault) → parts_of script object first count ≡ r → IsOk r → Begins (read_of script id r)
    read-smooth object first count some (Ok parts) same ok = reads-smooth (access script id parts []) is.devices_least at row (differ object first count parts some same)
    read-smooth object first count some (Err fault) same ok = absurd (let bad : false ≡ true = ok in cc)

    write-smooth : (object : Name) (first count : ℕ) (blocks : List (List ℕ)) → 1 ≤ count → (r : Result (List RowPart) PartsFault) → parts_of script object first count ≡ r → IsOk r →
        Begins (write_of script id blocks r)
    write-smooth object first count blocks some (Ok parts) same ok = writes-smooth (access script id parts blocks) is.devices_least at row (differ object first count parts some same)
    write-smooth object first count blocks some (Err fault) same ok = absurd (let bad : false ≡ true = ok in cc)

    pub attempt-smooth : (n : ℕ) (task : Task) → IsReadOrWrite task → IsTask script host task → IsOk (task_parts script task) → Begins (attempt script host id n task)
    attempt-smooth n (tasks.Read object first count) plain aim ok = read-smooth object first count aim.some (parts_of script object first count) refl ok
    attempt-smooth n (tasks.Write object first from count) plain aim ok = write-smooth object first count (blocks_of script from count) aim.some (parts_of script object first count) refl ok
    attempt-smooth n (tasks.Recover place) plain aim ok = absurd plain
    attempt-smooth n (tasks.Lose bay) plain aim ok = absurd plain
    attempt-smooth n (tasks.Fit bay) plain aim ok = absurd plain
    attempt-smooth n (tasks.Rebuild bay) plain aim ok = absurd plain

  -- Where the host stands
  abbrev pub IsFine : Job → Type 0
  IsFine job = IsReadOrWrite job.task × (job.quit ≡ None) × IsTask script host job.task

  -- the job may have this result after so many tries
  abbrev pub IsRight : Job → JobEnd → ℕ → Type 0
  IsRight job ended tries = IsOk (task_parts script job.task) → wants_numbers ended ≡ false → (tries ≡ 1) × IsDoneBy job.task ended

  abbrev pub Right : Ending → Type 0
  Right e = IsRight e.job e.ended e.tries

  pub record Sound (p : Progress) : Type 0 where
    pub jobs : AllByRecursion IsFine p.jobs
    pub right : AllByRecursion Right p.endings

  abbrev IsLow : Number → Type 0
  IsLow seen = seen.0 < 2 ^ 27

  -- over these slots
  module _ (S : BayNo → RowNo → Slot) where
    abbrev pub AllIdle : Number → Type 0
    AllIdle seen = (at : BayNo) (row : RowNo) → row.0 < script.rows → IsIdle script.mode seen (S at row)

    pub record OneSlot (id : Number) (steps : Steps Finish) (at : BayNo) (row : RowNo) : Type 0 where
      pub state : Use
      pub stands : SlotIs script.mode id state (S at row)
      pub smooth : Smooth script.mode id at row state steps

    pub record InHand (task : Task) (seen : Number) (tries : ℕ) (steps : Steps Finish) : Type 0 where
      pub id : Number
      pub low : id.0 ≤ seen.0
      pub once : tries ≡ 1
      pub plain : Plainly (Does (IsDoneBy task)) steps
      pub each : (at : BayNo) (row : RowNo) → row.0 < script.rows → OneSlot id steps at row

    abbrev pub Tries : List Job → Number → ℕ → Steps Finish → Type 0
    Tries [] seen tries steps = ⊥
    Tries (job ∷ jobs) seen tries steps = InHand job.task seen tries steps

    abbrev pub Works : List Job → Number → ℕ → Work → Type 0
    Works jobs seen tries (Trying steps) = Tries jobs seen tries steps
    Works jobs seen tries (Losing bay) = ⊥
    Works jobs seen tries (Fitting bay) = ⊥
    Works jobs seen tries Over = Unit {0}

    pub record StandsAlone (p : Progress) : Type 0 where
      pub sound : Sound p
      pub work : Works p.jobs p.seen p.tries p.work

    -- a job has a result
    abbrev Due : List Job → JobEnd → ℕ → Type 0
    Due [] ended tries = Unit {0}
    Due (job ∷ jobs) ended tries = IsRight job ended tries

    one-ended : (p : Progress) (e : JobEnd) (read : List Content) (js : List Job) → Due js e p.tries → AllByRecursion Right (endings_of js e read p)
    one-ended p e read [] due = tt
    one-ended p e read (job ∷ jobs) due = (due, tt)

    rest-fine : (js : List Job) → AllByRecursion IsFine js → AllByRecursion IsFine (drop 1 js)
    rest-fine [] h = tt
    rest-fine (job ∷ jobs) h = h.1

    next-sound : (p : Progress) (e : JobEnd) (read : List Content) → Sound p → Due p.jobs e p.tries → Sound (next_job (with_ending p e read))
    next-sound p e read s due = record {
      jobs = rest-fine p.jobs s.jobs;
      right = all-append Right p.endings (endings_of p.jobs e read p) s.right (one-ended p e read p.jobs due);
    }

    abbrev GoesOn : List Job → (Progress → Progress) → Type 0
    GoesOn jobs rest = (q : Progress) → q.jobs ≡ jobs → q.tries ≡ 0 → Sound q → AllIdle q.seen → IsLow q.seen → StandsAlone (rest q)

    module _ (rest : Progress → Progress) (job : Job) (jobs : List Job) (goes_on : GoesOn jobs rest) (p : Progress) (first : p.jobs ≡ job ∷ jobs) (none : p.tries ≡ 0) (s : Sound p)
        (idle : AllIdle p.seen) (low : IsLow p.seen) where
      own : IsFine job
      own = (subst (AllByRecursion IsFine) first s.jobs).0

      -- the attempt that is drawn
      module _ (ok : IsOk (task_parts script job.task)) (id : Number) (e : draw host p.seen ≡ Ok id) where
        abbrev tree : Steps Finish
        tree = attempt script host id p.row job.task

        small : id.0 + 16 < 2 ^ 62
        small =
            let near : IsNear host p.seen = draws-near host p.seen few (omega (arith, low)) in
            let close : near.next.0 ≤ p.seen.0 + 16 = near.near in
            let same : near.next.0 ≡ id.0 = ap (λ (x : Number). x.0) (drawn-same (draw host p.seen) near.next id near.drawn e) in
            omega (arith, low, close, same)

        begins : InHand job.task (settled host id tree).seen (p.tries + 1) (settled host id tree).steps
        begins = record {
          id = id;
          low = settled-more host id tree;
          once = omega (arith, none);
          plain = settled-plain (Does (IsDoneBy job.task)) host id tree (attempt-plain script host id p.row job.task own.0 ok);
          each = λ at row below. record {
            state = Untouched;
            stands = idle-begins script.mode p.seen id (S at row) (draw-more host p.seen id e) (idle at row below);
            smooth = settled-smooth host few script.mode id at row Untouched id tree small (attempt-smooth id at row p.row job.task own.0 own.2 ok);
          };
        }

      tries-with : IsOk (task_parts script job.task) → (d : Result Number Spent) → draw host p.seen ≡ d → StandsAlone (try_with script host job.task rest (one_more p) d)
      tries-with ok (Ok id) e =
          let a = attempt script host id p.row job.task in
          record {
            sound = record { jobs = s.jobs; right = s.right };
            work = subst (λ (js : List Job). Tries js (settled host id a).seen (p.tries + 1) (settled host id a).steps) (sym first) (begins ok id e);
          }
      tries-with ok (Err spent) e =
          let near : IsNear host p.seen = draws-near host p.seen few (omega (arith, low)) in
          absurd (never-spent (draw host p.seen) near.next spent near.drawn e)

      tries-as : (task : Task) → job.task ≡ task → IsOk (task_parts script task) → StandsAlone (try_task script host task rest p)
      tries-as task same ok =
          subst (λ (t : Task). StandsAlone (try_task script host t rest p)) same
          (tries-with (subst (λ (t : Task). IsOk (task_parts script t)) (sym same) ok) (draw host p.seen) refl)

      parts-begin : (task : Task) → job.task ≡ task → (r : Result (List RowPart) PartsFault) → task_parts script task ≡ r → StandsAlone (try_parts script host task rest p r)
      parts-begin task same (Ok parts) found = tries-as task same (subst (λ (r : Result (List RowPart) PartsFault). IsOk r) (sym found) refl)
      parts-begin task same (Err fault) found =
          goes_on (next_job (with_ending p (parts_end fault) [])) (ap (drop 1) first) refl
          (next-sound p (parts_end fault) [] s (subst (λ (js : List Job). Due js (parts_end fault) p.tries) (sym first) (λ ok numbers. absurd (without-parts (task_parts script task) fault found (subst (λ (t : Task). IsOk (task_parts script t)) same ok)))))
          idle low

      starts-as : (task : Task) → job.task ≡ task → IsReadOrWrite task → StandsAlone (start_task script host rest p task)
      starts-as (tasks.Read object begin count) same plain = parts-begin (tasks.Read object begin count) same (parts_of script object begin count) refl
      starts-as (tasks.Write object begin from count) same plain = parts-begin (tasks.Write object begin from count) same (parts_of script object begin count) refl
      starts-as (tasks.Recover row) same plain = absurd plain
      starts-as (tasks.Lose bay) same plain = absurd plain
      starts-as (tasks.Fit bay) same plain = absurd plain
      starts-as (tasks.Rebuild bay) same plain = absurd plain

      starts : StandsAlone (start_task script host rest p job.task)
      starts = starts-as job.task refl own.0

    pub start-stands : (jobs : List Job) → GoesOn jobs (start_jobs script host jobs)
    start-stands [] p none zero s idle low = record { sound = record { jobs = s.jobs; right = s.right }; work = tt }
    start-stands (job ∷ jobs) p first none s idle low = starts (start_jobs script host jobs) job jobs (start-stands jobs) p first none s idle low

    -- An attempt of the job in hand ends
    module _ (p : Progress) (job : Job) (jobs : List Job) (first : p.jobs ≡ job ∷ jobs) (s : Sound p) where
      mine : IsFine job
      mine = (subst (AllByRecursion IsFine) first s.jobs).0

      not-stopped : stops p ≡ false
      not-stopped = subst (λ (js : List Job). job_stops js p.asked ≡ false) (sym first) (goes-on job.quit p.asked mine.1)

      module _ (once : p.tries ≡ 1) (idle : AllIdle p.seen) (low : IsLow p.seen) where
        ended-stands : (e : JobEnd) (read : List Content) → IsRight job e p.tries → StandsAlone (job_ended script host p e read)
        ended-stands e read right =
            subst (λ (b : Bool). StandsAlone (go_on script host (with_ending p e read) b)) (sym not-stopped)
            (start-stands (drop 1 p.jobs) (next_job (with_ending p e read)) refl refl
            (next-sound p e read s (subst (λ (js : List Job). Due js e p.tries) (sym first) right)) idle low)

        refused-stands : (cause : Cause) → Does (IsDoneBy job.task) (record { ended = ends.Refused cause; contents = [] }) → (last : Bool) → ((p.tries == script.tries) || is_spent cause) ≡ last →
            StandsAlone (attempt_refused script host p cause last)
        refused-stands cause does true e = ended-stands (job_ends.Gave p.tries cause) [] (λ ok numbers. (once, does p.tries numbers))
        refused-stands cause does false e = absurd (never-gave job.task p.tries cause mine.0 (does p.tries (later-false (p.tries == script.tries) (is_spent cause) e)))

        attempt-stands : (read : List Content) (ended : Ended) → Does (IsDoneBy job.task) (record { ended = ended; contents = read }) → StandsAlone (attempt_ended script host p read ended)
        attempt-stands read (ends.Read n) does = ended-stands (job_ends.Read n) read (λ ok numbers. (once, does p.tries numbers))
        attempt-stands read (ends.Wrote n) does = ended-stands (job_ends.Wrote n) [] (λ ok numbers. (once, does p.tries numbers))
        attempt-stands read (ends.Part n made cause) does = ended-stands (job_ends.Part n made cause) [] (λ ok numbers. (once, does p.tries numbers))
        attempt-stands read (ends.Recovered n closed lost) does = ended-stands (job_ends.Recovered n closed lost) [] (λ ok numbers. (once, does p.tries numbers))
        attempt-stands read (ends.Refused cause) does = refused-stands cause does ((p.tries == script.tries) || is_spent cause) refl
        attempt-stands read ends.Mended does = absurd (never-rebuilt job.task mine.0 (does p.tries refl))

      -- steps that are left
      left-stands : IsLow p.seen → (steps : Steps Finish) → InHand job.task p.seen p.tries steps → StandsAlone (steps_left script host p steps)
      left-stands low (Asks e t c k) h =
          subst (λ (b : Bool). StandsAlone (asks_on p (Asks e t c k) t b)) (sym not-stopped)
          (record {
            sound = record { jobs = s.jobs; right = s.right };
            work = subst (λ (js : List Job). Tries js p.seen p.tries (Asks e t c k)) (sym first) h;
          })
      left-stands low (Draws k) h = record { sound = record { jobs = s.jobs; right = s.right }; work = tt }
      left-stands low (Ends f) h =
          attempt-stands h.once
          (λ at row below. let one = h.each at row below in ends-idle script.mode h.id p.seen one.state (S at row) h.low one.smooth one.stands)
          low f.contents f.ended h.plain

    -- what it asks is of a row
    own-row : (id : Number) (what : Request) → IsOwn script.mode id what → (there : RowNo) × (row_of what ≡ Some there)
    own-row id (Share row by want) owned = (row, refl)
    own-row id (Claim row by how mask want) owned = (row, refl)
    own-row id (Confirm row by want) owned = (row, refl)
    own-row id (Put row by n cell) owned = (row, refl)
    own-row id (Release row by n) owned = (row, refl)
    own-row id Lose owned = absurd owned
    own-row id Fit owned = absurd owned

    steps-row : (id : Number) (at : BayNo) (row : RowNo) (state : Use) (steps : Steps Finish) (e : Errand) → Smooth script.mode id at row state steps → next_errand steps ≡ Some e →
        (there : RowNo) × (row_of e.request ≡ Some there)
    steps-row id at row state (Asks x t c k) e h asked = let same : x ≡ e = cc in subst (λ (y : Errand). (there : RowNo) × (row_of y.request ≡ Some there)) same (own-row id x.request h.0)
    steps-row id at row state (Draws k) e h asked = absurd (cc)
    steps-row id at row state (Ends f) e h asked = absurd (cc)

    pub asks-row : (jobs : List Job) (seen : Number) (tries : ℕ) (work : Work) (e : Errand) → Works jobs seen tries work → work_errand work ≡ Some e → (there : RowNo) × (row_of e.request ≡ Some there)
    asks-row [] seen tries (Trying steps) e h asked = absurd h
    asks-row (job ∷ jobs) seen tries (Trying steps) e h asked =
        let first : BayNo = record { 0 = 0 } in
        let start : RowNo = record { 0 = 0 } in
        let rows = is.rows_least in
        let one : OneSlot h.id steps first start = h.each first start (omega (arith, rows)) in
        steps-row h.id first start one.state steps e one.smooth asked
    asks-row jobs seen tries (Losing bay) e h asked = absurd h
    asks-row jobs seen tries (Fitting bay) e h asked = absurd h
    asks-row jobs seen tries Over e h asked = absurd (cc)

  -- A call of the host, from these slots to those
  module _ (S T : BayNo → RowNo → Slot) (call : Call) (there : RowNo) where
    pub record Moves : Type 0 where
      pub fitted : fits call.ask.what call.answer.reply ≡ true
      pub shown : (n : Number) → ShowsNumber call.answer.reply n → n.0 < 2 ^ 26
      pub asked : row_of call.ask.what ≡ Some there
      pub below : there.0 < script.rows
      pub unrefused : (id : Number) (state : Use) → SlotIs script.mode id state (S call.bay there) → IsOwn script.mode id call.ask.what → Fine script.mode id (act_of call.ask.what) state →
          is_refused call.answer.reply ≡ false
      pub each : (id : Number) (at : BayNo) (row : RowNo) (state : Use) → row.0 < script.rows → SlotIs script.mode id state (S at row) → IsOwn script.mode id call.ask.what →
          (is_mine script.mode id at row call.bay call.ask.what ≡ true → Fine script.mode id (act_of call.ask.what) state) →
          SlotIs script.mode id (used (is_mine script.mode id at row call.bay call.ask.what) state call.ask.what) (T at row)

    module _ (m : Moves) where
      -- the request of a smooth attempt
      asks-own : (id : Number) (at : BayNo) (row : RowNo) (state : Use) (steps : Steps Finish) → Smooth script.mode id at row state steps → next_errand steps ≡ Some (errand_of call) →
          IsOwn script.mode id call.ask.what × (is_mine script.mode id at row call.bay call.ask.what ≡ true → Fine script.mode id (act_of call.ask.what) state)
      asks-own id at row state (Asks e t c k) h asked =
          let same : e ≡ errand_of call = cc in
          subst (λ (x : Errand). IsOwn script.mode id x.request × (is_mine script.mode id at row x.bay x.request ≡ true → Fine script.mode id (act_of x.request) state)) same (h.0, h.1)
      asks-own id at row state (Draws k) h asked = absurd (cc)
      asks-own id at row state (Ends f) h asked = absurd (cc)

      behind-smooth : (id : Number) (at : BayNo) (row : RowNo) (state : Use) (steps : Steps Finish) → Smooth script.mode id at row state steps → next_errand steps ≡ Some (errand_of call) →
          is_refused call.answer.reply ≡ false → Smooth script.mode id at row (used (is_mine script.mode id at row call.bay call.ask.what) state call.ask.what) (behind steps call.answer.reply)
      behind-smooth id at row state (Asks e t c k) h asked good =
          let same : e ≡ errand_of call = cc in
          subst (λ (x : Errand). Smooth script.mode id at row (used (is_mine script.mode id at row x.bay x.request) state x.request) (k call.answer.reply)) same
          (h.2 call.answer.reply (subst (λ (x : Errand). fits x.request call.answer.reply ≡ true) (sym same) m.fitted) good)
      behind-smooth id at row state (Draws k) h asked good = absurd (cc)
      behind-smooth id at row state (Ends f) h asked good = absurd (cc)

      own-slot : (id : Number) → is_mine script.mode id call.bay there call.bay call.ask.what ≡ true
      own-slot id = ap (λ (o : Option RowNo). (call.bay.0 == call.bay.0) && is_row there o) m.asked ∙ same
        where
          same : ((call.bay.0 == call.bay.0) && (there.0 == there.0)) ≡ true
          same = grind (arith, nat_tests)

      -- an attempt in hand goes on
      module _ (p : Progress) (job : Job) (steps : Steps Finish) (low : p.seen.0 < 2 ^ 26) (h : InHand S job.task p.seen p.tries steps) (asked : next_errand steps ≡ Some (errand_of call)) where
        abbrev heard : Number
        heard = sees p.seen call.answer.reply

        abbrev later : Standing Finish
        later = told host (record { seen = p.seen; steps = steps }) call.answer.reply

        heard-low : heard.0 < 2 ^ 26
        heard-low = sees-small (2 ^ 26) p.seen call.answer.reply low m.shown

        room : heard.0 + 16 < 2 ^ 62
        room = let few_seen = heard-low in omega (arith, few_seen)

        home : OneSlot S h.id steps call.bay there
        home = h.each call.bay there m.below

        good : is_refused call.answer.reply ≡ false
        good =
            let asks = asks-own h.id call.bay there home.state steps home.smooth asked in
            m.unrefused h.id home.state home.stands asks.0 (asks.1 (own-slot h.id))

        near : later.seen.0 ≤ heard.0 + 16
        near =
            settled-near host few script.mode h.id call.bay there (used (is_mine script.mode h.id call.bay there call.bay call.ask.what) home.state call.ask.what) heard (behind steps call.answer.reply) room
            (behind-smooth h.id call.bay there home.state steps home.smooth asked good)

        seen-low : later.seen.0 < 2 ^ 27
        seen-low = let few_seen = heard-low in let close = near in omega (arith, few_seen, close)

        id-low : h.id.0 ≤ later.seen.0
        id-low = let x = h.low in let y = sees-more p.seen call.answer.reply in let z = settled-more host heard (behind steps call.answer.reply) in omega (arith, x, y, z)

        hand : InHand T job.task later.seen p.tries later.steps
        hand = record {
          id = h.id;
          low = id-low;
          once = h.once;
          plain = settled-plain (Does (IsDoneBy job.task)) host heard (behind steps call.answer.reply) (behind-plain (Does (IsDoneBy job.task)) call steps h.plain asked m.fitted good);
          each = λ at row below.
              let one = h.each at row below in
              let asks = asks-own h.id at row one.state steps one.smooth asked in
              record {
                state = used (is_mine script.mode h.id at row call.bay call.ask.what) one.state call.ask.what;
                stands = m.each h.id at row one.state below one.stands asks.0 asks.1;
                smooth = settled-smooth host few script.mode h.id at row (used (is_mine script.mode h.id at row call.bay call.ask.what) one.state call.ask.what) heard (behind steps call.answer.reply) room
                    (behind-smooth h.id at row one.state steps one.smooth asked good);
              };
        }

      trying-told : (p : Progress) (js : List Job) → p.jobs ≡ js → (steps : Steps Finish) → p.seen.0 < 2 ^ 26 → Sound p → Tries S js p.seen p.tries steps → next_errand steps ≡ Some (errand_of call) →
          StandsAlone T (work_told script host (call_counted p call) call.answer.reply (Trying steps))
      trying-told p [] first steps low s h asked = absurd h
      trying-told p (job ∷ jobs) first steps low s h asked =
          left-stands T (record (call_counted p call) { seen = (told host (record { seen = p.seen; steps = steps }) call.answer.reply).seen }) job jobs first (record { jobs = s.jobs; right = s.right })
          (seen-low p job steps low h asked) (told host (record { seen = p.seen; steps = steps }) call.answer.reply).steps (hand p job steps low h asked)

      pub work-stands : (p : Progress) (work : Work) → p.seen.0 < 2 ^ 26 → Sound p → Works S p.jobs p.seen p.tries work → work_errand work ≡ Some (errand_of call) →
          StandsAlone T (work_told script host (call_counted p call) call.answer.reply work)
      work-stands p (Trying steps) small s h asked = trying-told p p.jobs refl steps small s h asked
      work-stands p (Losing bay) small s h asked = absurd h
      work-stands p (Fitting bay) small s h asked = absurd h
      work-stands p Over small s h asked = absurd (cc)
