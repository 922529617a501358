-- Along a history reads and writes whose last attempt met no reply that refuses it are done.
use Rattle.std.proofs.Common.{◌≡◌, refl, sym, ap, subst, ◌∙◌, ℕ, ◌+◌, ◌==◌, ◌&&◌, not, Bool, true, false, List, [], ◌∷◌, drop, Option, Some, None, Result, Ok, Err, arith}
use Rattle.std.specs.Prelude.{IsOk}
use Rattle.std.specs.List.{AllByRecursion}
use Rattle.std.proofs.lemmas.Bool.Decides.{nat_tests}
use Rattle.raid_base.specs.declared.numbers.BayNo.{BayNo}
use Rattle.raid_base.specs.declared.numbers.HostNo.{HostNo}
use Rattle.raid_base.specs.declared.numbers.Number.{Number}
use Rattle.raid_base.specs.declared.numbers.Spent.{Spent}
use Rattle.raid_base.specs.declared.names.Name.{Name}
use Rattle.raid_base.specs.declared.cells.Content.{Content}
use Rattle.raid_base.specs.declared.messages.Mode.{Mode}
use Rattle.raid_base.specs.declared.messages.Reply.{Reply}
use Rattle.raid_base.specs.declared.messages.Call.{Call}
use Rattle.raid_base.specs.declared.messages.Errand.{Errand}
use Rattle.raid_base.specs.declared.messages.Request.{Request}
use Rattle.raid_base.specs.declared.jobs.Job.{Job}
use Rattle.raid_base.specs.declared.jobs.Task.{Task}
use Rattle.raid_base.specs.declared.jobs.Task.TheVariants as tasks
use Rattle.raid_base.specs.declared.jobs.RowPart.{RowPart}
use Rattle.raid_base.specs.declared.jobs.PartsFault.{PartsFault}
use Rattle.raid_base.specs.declared.jobs.Cause.{Cause}
use Rattle.raid_base.specs.declared.jobs.Cause.TheVariants as causes
use Rattle.raid_base.specs.declared.jobs.Ended.{Ended}
use Rattle.raid_base.specs.declared.jobs.Ended.TheVariants as ends
use Rattle.raid_base.specs.declared.jobs.JobEnd.{JobEnd}
use Rattle.raid_base.specs.declared.jobs.JobEnd.TheVariants as job_ends
use Rattle.raid_base.specs.Fits.{fits}
use Rattle.raid_base.specs.Numbers.{draw, seen_drawn, sees}
use Rattle.raid_base.specs.Replies.{is_fault}
use Rattle.raid_base.specs.Steps.{Steps, Asks, Draws, Ends, settled, told, behind, next_errand, errand_of}
use Rattle.slot_rules.specs.Laws.{is_refused}
use Rattle.slot_rules.proofs.RuleLaws.{replies_fit_lem}
use Rattle.attempts.specs.Taking.{Finish}
use Rattle.attempts.specs.Finishes.{Finishes, IsReadEnd, unit_count}
use Rattle.attempts.specs.Returns.{Holding, held_after, Returns, WriteHolds, HasLetGo}
use Rattle.attempts.proofs.ReadFinishes.{reads_finish}
use Rattle.attempts.proofs.WriteReturns.{writes_return}
use Rattle.attempts.proofs.RoomLemmas.{all-append}
use Rattle.script_text.specs.Script.{Script, jobs_of, parts_of, blocks_of}
use Rattle.histories.specs.declared.operator.Gone.{Gone}
use Rattle.histories.specs.Operator.{is_gone}
use Rattle.histories.specs.Plain.{task_parts}
use Rattle.histories.specs.Progress.{Ending, Work, Trying, Losing, Fitting, Over, Progress, Sent, asks, sent_by, work_errand, endings_of, with_ending, next_job, access, attempt, read_of, write_of, try_with, one_more, try_task, parts_end, try_parts, lose_job, fit_job, rebuild_job, start_task, start_jobs, stops_at, job_stops, stops, go_on, job_ended, task_of, try_again, once_more, attempt_refused, next_row, row_mended, attempt_ended, quit_end, asks_on, steps_left, work_told, call_counted}
use Rattle.histories.specs.History.{if_taken, progress_at, bay_at, IsNext, IsHistory, endings_at}
use Rattle.histories.specs.Causes.{IsReadOrWrite}
use Rattle.histories.specs.Smallness.{wants_numbers, HasNumbers}
use Rattle.histories.specs.Completeness.{AreUnrefused, IsDoneBy, is_quit, is_cut, IsDoneUnrefused, UnrefusedJobsAreDone}
use Rattle.histories.proofs.bounds.BoundsTakes.{before_start}
use Rattle.histories.proofs.smallness.SmallHistory.{numbers_stay_small}
use Rattle.histories.proofs.causes.CauseLemmas.{AnySeen, IsReply, IsStopCause, Caused, EndStands, FinishStands}
use Rattle.histories.proofs.causes.HostCauses.{settled-caused, behind-caused}
use Rattle.histories.proofs.causes.ReadCauses.{reads_caused}
use Rattle.histories.proofs.causes.WriteCauses.{writes_caused}
use Rattle.histories.proofs.completeness.CompleteCauses.{IsFit, AreFit, none-stands}
use Rattle.histories.proofs.completeness.CompleteWalks.{Plainly, Does, job_end}
use Rattle.histories.proofs.completeness.CompleteReads.{reads_plain}
use Rattle.histories.proofs.completeness.CompleteWrites.{writes_plain}

same-host : (a b : HostNo) → (a.0 == b.0) ≡ true → a ≡ b
same-host a b e = let same : a.0 ≡ b.0 = grind (arith, nat_tests) in ap (λ (k : ℕ). record { 0 = k }) same

-- what is left once numbers were drawn, or a reply was told
pub settled-plain : (Q : Finish → Type 0) (host : HostNo) (seen : Number) (s : Steps Finish) → Plainly Q s → Plainly Q (settled host seen s).steps
settled-plain Q host seen (Asks e t c k) h = h
settled-plain Q host seen (Draws k) h = settled-plain Q host (seen_drawn seen (draw host seen)) (k (draw host seen)) (h (draw host seen))
settled-plain Q host seen (Ends f) h = h

pub behind-plain : (Q : Finish → Type 0) (call : Call) (s : Steps Finish) → Plainly Q s → next_errand s ≡ Some (errand_of call) → fits call.ask.what call.answer.reply ≡ true
    → is_refused call.answer.reply ≡ false → Plainly Q (behind s call.answer.reply)
behind-plain Q call (Asks e t c k) h asked fit good =
    let same : e ≡ errand_of call = cc in
    h call.answer.reply (subst (λ (x : Errand). fits x.request call.answer.reply ≡ true) (sym same) fit) good
behind-plain Q call (Draws k) h asked fit good = cc
behind-plain Q call (Ends f) h asked fit good = cc

-- parts that are refused are none
pub without-parts : (r : Result (List RowPart) PartsFault) (fault : PartsFault) → r ≡ Err fault → IsOk r → ⊥
without-parts (Ok parts) fault is ok = cc
without-parts (Err other) fault is ok = let bad : false ≡ true = ok in cc

-- How a read and a write end
abbrev pub IsReadEnded : Ended → Type 0
IsReadEnded (ends.Read n) = Unit {0}
IsReadEnded (ends.Wrote n) = ⊥
IsReadEnded (ends.Part n made cause) = ⊥
IsReadEnded (ends.Recovered n closed lost) = ⊥
IsReadEnded (ends.Refused cause) = Unit {0}
IsReadEnded ends.Mended = ⊥

abbrev pub IsWriteEnded : Ended → Type 0
IsWriteEnded (ends.Read n) = ⊥
IsWriteEnded (ends.Wrote n) = Unit {0}
IsWriteEnded (ends.Part n made cause) = Unit {0}
IsWriteEnded (ends.Recovered n closed lost) = ⊥
IsWriteEnded (ends.Refused cause) = Unit {0}
IsWriteEnded ends.Mended = ⊥

abbrev pub IsEnded : Task → Ended → Type 0
IsEnded (tasks.Read object first count) e = IsReadEnded e
IsEnded (tasks.Write object first from count) e = IsWriteEnded e
IsEnded (tasks.Recover row) e = Unit {0}
IsEnded (tasks.Rebuild bay) e = Unit {0}
IsEnded (tasks.Lose bay) e = Unit {0}
IsEnded (tasks.Fit bay) e = Unit {0}

abbrev pub FinishesAs : Task → Finish → Type 0
FinishesAs task f = IsEnded task f.ended

-- whatever the replies and the numbers drawn
abbrev pub EndsAs : (Finish → Type 0) → Steps Finish → Type 0
EndsAs Q (Ends f) = Q f
EndsAs Q (Draws k) = (d : Result Number Spent) → EndsAs Q (k d)
EndsAs Q (Asks e s c k) = (r : Reply) → EndsAs Q (k r)

finishes-as : (P Q : Finish → Type 0) → ((f : Finish) → P f → Q f) → (s : Steps Finish) → Finishes P s → EndsAs Q s
finishes-as P Q more (Asks e t c k) h = λ r. finishes-as P Q more (k r) (h.1 r)
finishes-as P Q more (Draws k) h = λ d. finishes-as P Q more (k d) (h d)
finishes-as P Q more (Ends f) h = more f h

returns-as : (mode : Mode) (P : List Holding → Finish → Type 0) (Q : Finish → Type 0) → ((held : List Holding) (f : Finish) → P held f → Q f) → (held : List Holding) (s : Steps Finish)
    → Returns mode P held s → EndsAs Q s
returns-as mode P Q more held (Asks e t c k) h = λ r. returns-as mode P Q more (held_after mode held e.bay e.request r) (k r) (h r)
returns-as mode P Q more held (Draws k) h = λ d. returns-as mode P Q more held (k d) (h d)
returns-as mode P Q more held (Ends f) h = more held f h

read-ended : (count : ℕ) (read : List Content) (e : Ended) → IsReadEnd count read e → IsReadEnded e
read-ended count read (ends.Read n) h = tt
read-ended count read (ends.Wrote n) h = h
read-ended count read (ends.Part n made cause) h = h
read-ended count read (ends.Recovered n closed lost) h = h
read-ended count read (ends.Refused cause) h = tt
read-ended count read ends.Mended h = h

write-ended : (held : List Holding) (e : Ended) → WriteHolds held e → IsWriteEnded e
write-ended held (ends.Read n) h = h
write-ended held (ends.Wrote n) h = tt
write-ended held (ends.Part n made cause) h = tt
write-ended held (ends.Recovered n closed lost) h = h
write-ended held (ends.Refused cause) h = tt
write-ended held ends.Mended h = h

settled-ends : (Q : Finish → Type 0) (host : HostNo) (seen : Number) (s : Steps Finish) → EndsAs Q s → EndsAs Q (settled host seen s).steps
settled-ends Q host seen (Asks e t c k) h = h
settled-ends Q host seen (Draws k) h = settled-ends Q host (seen_drawn seen (draw host seen)) (k (draw host seen)) (h (draw host seen))
settled-ends Q host seen (Ends f) h = h

behind-ends : (Q : Finish → Type 0) (s : Steps Finish) (r : Reply) → EndsAs Q s → EndsAs Q (behind s r)
behind-ends Q (Asks e t c k) r h = h r
behind-ends Q (Draws k) r h = h
behind-ends Q (Ends f) r h = h

-- Stops. A job whose host stops in an attempt says so
stop-cut : (tries : ℕ) (stop : Ended) → IsStopCause stop → is_cut (quit_end tries stop) ≡ true
stop-cut tries (ends.Read n) c = absurd c
stop-cut tries (ends.Wrote n) c = absurd c
stop-cut tries (ends.Part n made cause) c = ap is_quit c
stop-cut tries (ends.Recovered n closed lost) c = ap not c
stop-cut tries (ends.Refused cause) c = refl
stop-cut tries ends.Mended c = absurd c

not-both : (a b : Bool) → a ≡ true → b ≡ true → (a && b) ≡ false → ⊥
not-both true true s c e = cc
not-both true false s c e = cc
not-both false b s c e = cc

-- the job may have this result after so many requests and these calls of its last attempt
abbrev IsRight : Script → Job → JobEnd → ℕ → List Call → Type 0
IsRight script job ended asked calls =
    IsReadOrWrite job.task → IsOk (task_parts script job.task) → (stops_at job.quit asked && is_cut ended) ≡ false → AreUnrefused script.mode calls → wants_numbers ended ≡ false
    → IsDoneBy job.task ended

module _ (script : Script) (host : HostNo) where
  abbrev Right : Ending → Type 0
  Right e = IsRight script e.job e.ended e.asked e.calls

  -- Attempts
  read-plain : (id : Number) (task : Task) (done : (n : Number) → IsDoneBy task (job_ends.Read n)) (r : Result (List RowPart) PartsFault) → IsOk r → Plainly (Does (IsDoneBy task)) (read_of script id r)
  read-plain id task done (Ok parts) ok = reads_plain (IsDoneBy task) done (access script id parts [])
  read-plain id task done (Err fault) ok = absurd (let bad : false ≡ true = ok in cc)

  write-plain : (id : Number) (task : Task) (done : (n : Number) → IsDoneBy task (job_ends.Wrote n)) (blocks : List (List ℕ)) (r : Result (List RowPart) PartsFault) → IsOk r
      → Plainly (Does (IsDoneBy task)) (write_of script id blocks r)
  write-plain id task done blocks (Ok parts) ok = writes_plain (IsDoneBy task) done (access script id parts blocks)
  write-plain id task done blocks (Err fault) ok = absurd (let bad : false ≡ true = ok in cc)

  pub attempt-plain : (id : Number) (row : ℕ) (task : Task) → IsReadOrWrite task → IsOk (task_parts script task) → Plainly (Does (IsDoneBy task)) (attempt script host id row task)
  attempt-plain id row (tasks.Read object first count) plain ok = read-plain id (tasks.Read object first count) (λ n. tt) (parts_of script object first count) ok
  attempt-plain id row (tasks.Write object first from count) plain ok =
      write-plain id (tasks.Write object first from count) (λ n. tt) (blocks_of script from count) (parts_of script object first count) ok
  attempt-plain id row (tasks.Recover at) plain ok = absurd plain
  attempt-plain id row (tasks.Rebuild bay) plain ok = absurd plain
  attempt-plain id row (tasks.Lose bay) plain ok = absurd plain
  attempt-plain id row (tasks.Fit bay) plain ok = absurd plain

  -- what the attempt in hand will end with, and that its cause stands then
  pub record Fated (task : Task) (calls : List Call) (steps : Steps Finish) : Type 0 where
    pub caused : Caused host AnySeen (FinishStands script host AnySeen task) calls steps
    pub ends : EndsAs (FinishesAs task) steps

  read-fated : (id : Number) (object : Name) (first count : ℕ) (r : Result (List RowPart) PartsFault) → IsOk r → Fated (tasks.Read object first count) [] (read_of script id r)
  read-fated id object first count (Ok parts) ok = record {
    caused = reads_caused script host AnySeen (tasks.Read object first count) tt id parts [];
    ends = finishes-as (λ (f : Finish). IsReadEnd (unit_count script.n parts) f.contents f.ended) (FinishesAs (tasks.Read object first count))
        (λ f h. read-ended (unit_count script.n parts) f.contents f.ended h) (read_of script id (Ok parts)) (reads_finish (access script id parts []));
  }
  read-fated id object first count (Err fault) ok = absurd (let bad : false ≡ true = ok in cc)

  write-fated : (id : Number) (object : Name) (first from count : ℕ) (r : Result (List RowPart) PartsFault) → IsOk r
      → Fated (tasks.Write object first from count) [] (write_of script id (blocks_of script from count) r)
  write-fated id object first from count (Ok parts) ok = record {
    caused = writes_caused script host AnySeen (tasks.Write object first from count) tt id parts (blocks_of script from count);
    ends = returns-as script.mode HasLetGo (FinishesAs (tasks.Write object first from count)) (λ held f h. write-ended held f.ended h) []
        (write_of script id (blocks_of script from count) (Ok parts)) (writes_return (access script id parts (blocks_of script from count)));
  }
  write-fated id object first from count (Err fault) ok = absurd (let bad : false ≡ true = ok in cc)

  attempt-fated : (id : Number) (row : ℕ) (task : Task) → IsReadOrWrite task → IsOk (task_parts script task) → Fated task [] (attempt script host id row task)
  attempt-fated id row (tasks.Read object first count) plain ok = read-fated id object first count (parts_of script object first count) ok
  attempt-fated id row (tasks.Write object first from count) plain ok = write-fated id object first from count (parts_of script object first count) ok
  attempt-fated id row (tasks.Recover at) plain ok = absurd plain
  attempt-fated id row (tasks.Rebuild bay) plain ok = absurd plain
  attempt-fated id row (tasks.Lose bay) plain ok = absurd plain
  attempt-fated id row (tasks.Fit bay) plain ok = absurd plain

  settled-fated : (task : Task) (calls : List Call) (seen : Number) (s : Steps Finish) → Fated task calls s → Fated task calls (settled host seen s).steps
  settled-fated task calls seen s f =
      record {
        caused = settled-caused host AnySeen (FinishStands script host AnySeen task) calls seen s (λ d none. tt) f.caused;
        ends = settled-ends (FinishesAs task) host seen s f.ends;
      }

  pub told-fated : (task : Task) (calls : List Call) (seen : Number) (steps : Steps Finish) (call : Call) → IsFit call → next_errand steps ≡ Some (errand_of call)
      → Fated task calls steps → Fated task (call ∷ calls) (told host (record { seen = seen; steps = steps }) call.answer.reply).steps
  told-fated task calls seen steps call fit asked f =
      settled-fated task (call ∷ calls) (sees seen call.answer.reply) (behind steps call.answer.reply)
      (record {
        caused = behind-caused host AnySeen (FinishStands script host AnySeen task) calls call steps f.caused (λ e next. answers e (the-same e next)) asked;
        ends = behind-ends (FinishesAs task) steps call.answer.reply f.ends;
      }) where
        the-same : (e : Errand) → next_errand steps ≡ Some e → e ≡ errand_of call
        the-same e next = let both : Some e ≡ Some (errand_of call) = sym next ∙ asked in cc

        answers : (e : Errand) → e ≡ errand_of call → IsReply e call
        answers e same = record { asked = sym same; fit = subst (λ (x : Errand). fits x.request call.answer.reply ≡ true) (sym same) fit }

  -- how it ends where no reply refused it
  pub done-by : (task : Task) → IsReadOrWrite task → (calls : List Call) → AreFit calls → AreUnrefused script.mode calls → (tries : ℕ) (e : Ended)
      → EndStands script host AnySeen task calls e → IsEnded task e → wants_numbers (job_end tries e) ≡ false → IsDoneBy task (job_end tries e)
  done-by (tasks.Read object first count) plain calls fit good tries (ends.Read n) s h numbers = tt
  done-by (tasks.Read object first count) plain calls fit good tries (ends.Wrote n) s h numbers = absurd h
  done-by (tasks.Read object first count) plain calls fit good tries (ends.Part n made cause) s h numbers = absurd h
  done-by (tasks.Read object first count) plain calls fit good tries (ends.Recovered n closed lost) s h numbers = absurd h
  done-by (tasks.Read object first count) plain calls fit good tries (ends.Refused cause) s h numbers =
      absurd (none-stands script host (tasks.Read object first count) tt calls fit good cause numbers s)
  done-by (tasks.Read object first count) plain calls fit good tries ends.Mended s h numbers = absurd h
  done-by (tasks.Write object first from count) plain calls fit good tries (ends.Read n) s h numbers = absurd h
  done-by (tasks.Write object first from count) plain calls fit good tries (ends.Wrote n) s h numbers = tt
  done-by (tasks.Write object first from count) plain calls fit good tries (ends.Part n made cause) s h numbers =
      absurd (none-stands script host (tasks.Write object first from count) tt calls fit good cause numbers s)
  done-by (tasks.Write object first from count) plain calls fit good tries (ends.Recovered n closed lost) s h numbers = absurd h
  done-by (tasks.Write object first from count) plain calls fit good tries (ends.Refused cause) s h numbers =
      absurd (none-stands script host (tasks.Write object first from count) tt calls fit good cause numbers s)
  done-by (tasks.Write object first from count) plain calls fit good tries ends.Mended s h numbers = absurd h
  done-by (tasks.Recover row) plain calls fit good tries e s h numbers = absurd plain
  done-by (tasks.Rebuild bay) plain calls fit good tries e s h numbers = absurd plain
  done-by (tasks.Lose bay) plain calls fit good tries e s h numbers = absurd plain
  done-by (tasks.Fit bay) plain calls fit good tries e s h numbers = absurd plain

  -- Where a host stands
  pub record Sound (p : Progress) : Type 0 where
    pub right : AllByRecursion Right p.endings
    pub fit : AreFit p.calls

  -- the attempt in hand
  abbrev pub TriesTask : Task → List Call → Steps Finish → Type 0
  TriesTask task calls steps = IsReadOrWrite task → IsOk (task_parts script task) → Fated task calls steps

  abbrev pub TriesJob : List Call → List Job → Steps Finish → Type 0
  TriesJob calls [] steps = ⊥
  TriesJob calls (job ∷ jobs) steps = TriesTask job.task calls steps

  -- a request that is a job of its own is no read or write
  abbrev pub IsOther : List Job → Type 0
  IsOther [] = Unit {0}
  IsOther (job ∷ jobs) = IsReadOrWrite job.task → ⊥

  abbrev pub Works : List Call → List Job → Work → Type 0
  Works calls jobs (Trying steps) = TriesJob calls jobs steps
  Works calls jobs (Losing bay) = IsOther jobs
  Works calls jobs (Fitting bay) = IsOther jobs
  Works calls jobs Over = Unit {0}

  pub record StandsWell (p : Progress) : Type 0 where
    pub sound : Sound p
    pub work : Works p.calls p.jobs p.work

  -- the job in hand may have this result
  abbrev Due : List Job → JobEnd → ℕ → List Call → Type 0
  Due [] ended asked calls = Unit {0}
  Due (job ∷ jobs) ended asked calls = IsRight script job ended asked calls

  one-ended : (p : Progress) (e : JobEnd) (read : List Content) (js : List Job) → Due js e p.asked p.calls → AllByRecursion Right (endings_of js e read p)
  one-ended p e read [] due = tt
  one-ended p e read (job ∷ jobs) due = (due, tt)

  next-sound : (p : Progress) (e : JobEnd) (read : List Content) → Sound p → Due p.jobs e p.asked p.calls → Sound (next_job (with_ending p e read))
  next-sound p e read s due = record { right = all-append Right p.endings (endings_of p.jobs e read p) s.right (one-ended p e read p.jobs due); fit = tt }

  due-other : (js : List Job) (e : JobEnd) (asked : ℕ) (calls : List Call) → IsOther js → Due js e asked calls
  due-other [] e asked calls other = tt
  due-other (job ∷ jobs) e asked calls other = λ plain ok stays good numbers. absurd (other plain)

  -- where it goes on with these jobs
  abbrev pub GoesOn : List Job → (Progress → Progress) → Type 0
  GoesOn jobs rest = (q : Progress) → q.jobs ≡ jobs → Sound q → StandsWell (rest q)

  module _ (rest : Progress → Progress) (job : Job) (jobs : List Job) (goes_on : GoesOn jobs rest) (p : Progress) (first : p.jobs ≡ job ∷ jobs) (s : Sound p) where
    skips : (q : Progress) (e : JobEnd) → q.jobs ≡ job ∷ jobs → Sound q → IsRight script job e q.asked q.calls → StandsWell (rest (next_job (with_ending q e [])))
    skips q e same sound right =
        goes_on (next_job (with_ending q e [])) (ap (drop 1) same) (next-sound q e [] sound (subst (λ (js : List Job). Due js e q.asked q.calls) (sym same) right))

    skips-other : (e : JobEnd) → (IsReadOrWrite job.task → ⊥) → StandsWell (rest (next_job (with_ending p e [])))
    skips-other e other = skips p e first s (λ plain ok stays good numbers. absurd (other plain))

    other : (task : Task) → job.task ≡ task → (IsReadOrWrite task → ⊥) → IsReadOrWrite job.task → ⊥
    other task same never plain = never (subst IsReadOrWrite same plain)

    tries-with : (d : Result Number Spent) → StandsWell (try_with script host job.task rest (one_more p) d)
    tries-with (Ok id) = record {
      sound = record { right = s.right; fit = tt };
      work = subst (λ (js : List Job). TriesJob [] js (settled host id (attempt script host id p.row job.task)).steps) (sym first) begins;
    } where
      begins : TriesTask job.task [] (settled host id (attempt script host id p.row job.task)).steps
      begins plain ok = settled-fated job.task [] id (attempt script host id p.row job.task) (attempt-fated id p.row job.task plain ok)
    tries-with (Err spent) =
        skips (one_more p) (job_ends.Gave (p.tries + 1) (causes.Spent spent.seen)) first (record { right = s.right; fit = tt })
        (λ plain ok stays good numbers. absurd (let bad : true ≡ false = numbers in cc))

    pub tries : StandsWell (try_task script host job.task rest p)
    tries = tries-with (draw host p.seen)

    tries-as : (task : Task) → job.task ≡ task → StandsWell (try_task script host task rest p)
    tries-as task same = subst (λ (t : Task). StandsWell (try_task script host t rest p)) same tries

    parts-begin : (task : Task) → job.task ≡ task → (r : Result (List RowPart) PartsFault) → task_parts script task ≡ r → StandsWell (try_parts script host task rest p r)
    parts-begin task same (Ok parts) is = tries-as task same
    parts-begin task same (Err fault) is = skips p (parts_end fault) first s (λ plain ok stays good numbers. absurd (refused ok)) where
      refused : IsOk (task_parts script job.task) → ⊥
      refused ok = without-parts (task_parts script task) fault is (subst (λ (t : Task). IsOk (task_parts script t)) same ok)

    asks-one : (work : Work) → (IsReadOrWrite job.task → ⊥) → ((js : List Job) → IsOther js → Works p.calls js work) → StandsWell (record p { work = work })
    asks-one work never any = record { sound = record { right = s.right; fit = s.fit }; work = any p.jobs (subst IsOther (sym first) never) }

    loses : (bay : BayNo) → (IsReadOrWrite job.task → ⊥) → (gone : Option Gone) → StandsWell (lose_job rest p bay gone)
    loses bay never None = asks-one (Losing bay) never (λ js o. o)
    loses bay never (Some gone) = skips-other (job_ends.StillMissing gone.bay) never

    fits-one : (bay : BayNo) → (IsReadOrWrite job.task → ⊥) → (lost : Bool) → StandsWell (fit_job rest p bay lost)
    fits-one bay never true = asks-one (Fitting bay) never (λ js o. o)
    fits-one bay never false = skips-other (job_ends.NotLost bay) never

    rebuilds : (bay : BayNo) → job.task ≡ tasks.Rebuild bay → (fitted : Bool) → StandsWell (rebuild_job script host rest p bay fitted)
    rebuilds bay same true = tries-as (tasks.Rebuild bay) same
    rebuilds bay same false = skips-other (job_ends.NotFitted bay) (other (tasks.Rebuild bay) same (λ plain. plain))

    starts-as : (task : Task) → job.task ≡ task → StandsWell (start_task script host rest p task)
    starts-as (tasks.Read object begin count) same = parts-begin (tasks.Read object begin count) same (parts_of script object begin count) refl
    starts-as (tasks.Write object begin from count) same = parts-begin (tasks.Write object begin from count) same (parts_of script object begin count) refl
    starts-as (tasks.Recover row) same = tries-as (tasks.Recover row) same
    starts-as (tasks.Lose bay) same = loses bay (other (tasks.Lose bay) same (λ plain. plain)) p.gone
    starts-as (tasks.Fit bay) same = fits-one bay (other (tasks.Fit bay) same (λ plain. plain)) (is_gone bay false p.gone)
    starts-as (tasks.Rebuild bay) same = rebuilds bay same (is_gone bay true p.gone)

    pub starts : StandsWell (start_task script host rest p job.task)
    starts = starts-as job.task refl

  pub start-stands : (jobs : List Job) → GoesOn jobs (start_jobs script host jobs)
  start-stands [] p none s = record { sound = record { right = s.right; fit = s.fit }; work = tt }
  start-stands (job ∷ jobs) p first s = starts (start_jobs script host jobs) job jobs (start-stands jobs) p first s

  -- A job ends
  on-stands : (q : Progress) (stopped : Bool) → Sound (next_job q) → StandsWell (go_on script host q stopped)
  on-stands q true s = record { sound = record { right = s.right; fit = tt }; work = tt }
  on-stands q false s = start-stands (drop 1 q.jobs) (next_job q) refl s

  ended-stands : (p : Progress) (e : JobEnd) (read : List Content) → Sound p → Due p.jobs e p.asked p.calls → StandsWell (job_ended script host p e read)
  ended-stands p e read s due = on-stands (with_ending p e read) (stops p) (next-sound p e read s due)

  -- An attempt of the job in hand ends
  module _ (p : Progress) (job : Job) (jobs : List Job) (first : p.jobs ≡ job ∷ jobs) (s : Sound p) where
    due-of : (e : JobEnd) → IsRight script job e p.asked p.calls → Due p.jobs e p.asked p.calls
    due-of e right = subst (λ (js : List Job). Due js e p.asked p.calls) (sym first) right

    -- where the host stops here
    due-stop : (e : JobEnd) → (IsReadOrWrite job.task → IsOk (task_parts script job.task) → is_cut e ≡ true) → stops p ≡ true → Due p.jobs e p.asked p.calls
    due-stop e cut stopped =
        due-of e (λ plain ok stays good numbers.
        absurd (not-both (stops_at job.quit p.asked) (is_cut e) (subst (λ (js : List Job). job_stops js p.asked ≡ true) first stopped) (cut plain ok) stays))

    again : (later : Progress) → later.jobs ≡ job ∷ jobs → Sound later → StandsWell (try_again script host later (task_of p.jobs))
    again later same t = subst (λ (js : List Job). StandsWell (try_again script host later (task_of js))) (sym first) by where
      by : StandsWell (try_again script host later (Some job.task))
      by =
          tries (start_jobs script host (drop 1 later.jobs)) job jobs
          (λ q left sound. start-stands (drop 1 later.jobs) q (left ∙ sym (ap (drop 1) same)) sound)
          later same t

    more-stands : (later : Progress) → later.jobs ≡ job ∷ jobs → Sound later → (stopped : Bool) → stops p ≡ stopped → StandsWell (once_more script host p later stopped)
    more-stands later same t true e = ended-stands p (job_ends.Gave p.tries causes.Quit) [] s (due-stop (job_ends.Gave p.tries causes.Quit) (λ plain ok. refl) e)
    more-stands later same t false e = again later same t

    -- how it ends
    abbrev DoesTask : Ended → Type 0
    DoesTask e = IsReadOrWrite job.task → IsOk (task_parts script job.task) → EndStands script host AnySeen job.task p.calls e × IsEnded job.task e

    due-done : (e : Ended) → DoesTask e → Due p.jobs (job_end p.tries e) p.asked p.calls
    due-done e does =
        due-of (job_end p.tries e) (λ plain ok stays good numbers. done-by job.task plain p.calls s.fit good p.tries e (does plain ok).0 (does plain ok).1 numbers)

    refused-stands : (cause : Cause) → DoesTask (ends.Refused cause) → (last : Bool) → StandsWell (attempt_refused script host p cause last)
    refused-stands cause does true = ended-stands p (job_ends.Gave p.tries cause) [] s (due-done (ends.Refused cause) does)
    refused-stands cause does false = more-stands p first s (stops p) refl

    mended-stands : DoesTask ends.Mended → (last : Bool) → StandsWell (row_mended script host p last)
    mended-stands does true = ended-stands (record p { gone = None }) job_ends.Rebuilt [] (record { right = s.right; fit = s.fit }) (due-done ends.Mended does)
    mended-stands does false = more-stands (next_row p) first (record { right = s.right; fit = s.fit }) (stops p) refl

    attempt-stands : (read : List Content) (ended : Ended) → DoesTask ended → StandsWell (attempt_ended script host p read ended)
    attempt-stands read (ends.Read n) does = ended-stands p (job_ends.Read n) read s (due-done (ends.Read n) does)
    attempt-stands read (ends.Wrote n) does = ended-stands p (job_ends.Wrote n) [] s (due-done (ends.Wrote n) does)
    attempt-stands read (ends.Part n made cause) does = ended-stands p (job_ends.Part n made cause) [] s (due-done (ends.Part n made cause) does)
    attempt-stands read (ends.Recovered n closed lost) does = ended-stands p (job_ends.Recovered n closed lost) [] s (due-done (ends.Recovered n closed lost) does)
    attempt-stands read (ends.Refused cause) does = refused-stands cause does _
    attempt-stands read ends.Mended does = mended-stands does _

    -- the host stops in it, or goes on
    asks-stand : (steps : Steps Finish) (stop : Ended) → TriesTask job.task p.calls steps → (IsReadOrWrite job.task → IsOk (task_parts script job.task) → IsStopCause stop)
        → (stopped : Bool) → stops p ≡ stopped → StandsWell (asks_on p steps stop stopped)
    asks-stand steps stop f c true e =
        let t = next-sound p (quit_end p.tries stop) [] s (due-stop (quit_end p.tries stop) (λ plain ok. stop-cut p.tries stop (c plain ok)) e) in
        record { sound = record { right = t.right; fit = tt }; work = tt }
    asks-stand steps stop f c false e = record {
      sound = record { right = s.right; fit = s.fit };
      work = subst (λ (js : List Job). TriesJob p.calls js steps) (sym first) f;
    }

    -- steps that are left
    left-stands : (steps : Steps Finish) → TriesTask job.task p.calls steps → StandsWell (steps_left script host p steps)
    left-stands (Asks e t c k) f = asks-stand (Asks e t c k) t f (λ plain ok. (f plain ok).caused.0) (stops p) refl
    left-stands (Draws k) f = record { sound = record { right = s.right; fit = s.fit }; work = tt }
    left-stands (Ends finish) f = attempt-stands finish.contents finish.ended (λ plain ok. ((f plain ok).caused, (f plain ok).ends))

  -- Calls
  module _ (call : Call) (fit : fits call.ask.what call.answer.reply ≡ true) where
    trying-told : (p : Progress) (js : List Job) → p.jobs ≡ js → (steps : Steps Finish) → Sound p → TriesJob p.calls js steps → next_errand steps ≡ Some (errand_of call)
        → StandsWell (work_told script host (call_counted p call) call.answer.reply (Trying steps))
    trying-told p [] first steps s f asked = absurd f
    trying-told p (job ∷ jobs) first steps s f asked =
        left-stands (record (call_counted p call) { seen = (told host (record { seen = p.seen; steps = steps }) call.answer.reply).seen }) job jobs first
        (record { right = s.right; fit = (fit, s.fit) }) (told host (record { seen = p.seen; steps = steps }) call.answer.reply).steps
        (λ plain ok. told-fated job.task p.calls p.seen steps call fit asked (f plain ok))

    work-stands : (p : Progress) (work : Work) → Sound p → Works p.calls p.jobs work → p.work ≡ work → work_errand work ≡ Some (errand_of call)
        → StandsWell (work_told script host (call_counted p call) call.answer.reply work)
    work-stands p (Trying steps) s f same asked = trying-told p p.jobs refl steps s f asked
    work-stands p (Losing bay) s f same asked =
        ended-stands (record (call_counted p call) { gone = Some (record { bay = bay; fitted = false }) }) job_ends.Lost [] (record { right = s.right; fit = (fit, s.fit) })
        (due-other p.jobs job_ends.Lost (p.asked + 1) (call ∷ p.calls) f)
    work-stands p (Fitting bay) s f same asked =
        ended-stands (record (call_counted p call) { gone = Some (record { bay = bay; fitted = true }) }) job_ends.Fitted [] (record { right = s.right; fit = (fit, s.fit) })
        (due-other p.jobs job_ends.Fitted (p.asked + 1) (call ∷ p.calls) f)
    work-stands p Over s f same asked = cc

    was-asked : (clock moment : ℕ) (o : Option Errand) → sent_by host clock moment o ≡ Some (record { bay = call.bay; ask = call.ask }) → o ≡ Some (errand_of call)
    was-asked clock moment None e = cc
    was-asked clock moment (Some errand) e =
        let sent : record { bay = errand.bay; ask = record { host = host; clock = clock; moment = moment; what = errand.request } } ≡ (let x : Sent = record { bay = call.bay; ask = call.ask } in x) = cc in
        let bays : errand.bay ≡ call.bay = ap (λ (x : Sent). x.bay) sent in
        let requests : errand.request ≡ call.ask.what = ap (λ (x : Sent). x.ask.what) sent in
        let one : errand ≡ record { bay = call.bay; request = errand.request } = ap (λ (b : BayNo). record { bay = b; request = errand.request }) bays in
        let other : record { bay = call.bay; request = errand.request } ≡ errand_of call = ap (λ (w : Request). record { bay = call.bay; request = w }) requests in
        ap (λ (x : Errand). Some x) (one ∙ other)

  call-stands : (earlier : List Call) (call : Call) → IsNext script earlier call → (own : Bool) → (call.ask.host.0 == host.0) ≡ own → StandsWell (progress_at script host earlier)
      → StandsWell (if_taken script host (progress_at script host earlier) call own)
  call-stands earlier call next true at w =
      let p : Progress = progress_at script host earlier in
      let sent : Sent = record { bay = call.bay; ask = call.ask } in
      let asked : asks host p call.ask.moment ≡ Some sent =
      subst (λ (h : HostNo). asks h (progress_at script h earlier) call.ask.moment ≡ Some sent) (same-host call.ask.host host at) next.asked in
      let ruled = ap (λ (c : Call). fits call.ask.what c.answer.reply) next.replied in
      let fit : fits call.ask.what call.answer.reply ≡ true = ruled ∙ replies_fit_lem (bay_at script call.bay earlier) call.ask (is_fault call.answer.reply) in
      work-stands call fit p p.work w.sound w.work refl (was-asked call fit p.clock call.ask.moment (work_errand p.work) asked)
  call-stands earlier call next false at w = w

  pub history-stands : (history : List Call) → IsHistory script history → StandsWell (progress_at script host history)
  history-stands [] h = start-stands (jobs_of script host) (before_start script host) refl (record { right = tt; fit = tt })
  history-stands (call ∷ earlier) h = call-stands earlier call h.1 (call.ask.host.0 == host.0) refl (history-stands earlier h.0)

  -- no job ends for want of numbers
  are-done : (endings : List Ending) → AllByRecursion Right endings → AllByRecursion HasNumbers endings → AllByRecursion (IsDoneUnrefused script) endings
  are-done [] right numbers = tt
  are-done (e ∷ es) right numbers = (λ plain ok stays good. right.0 plain ok stays good numbers.0, are-done es right.1 numbers.1)

pub unrefused_jobs_are_done : UnrefusedJobsAreDone
unrefused_jobs_are_done script history is light along host =
    are-done script host (endings_at script history host) (history-stands script host history along).sound.right ((numbers_stay_small script history is light along).2 host)
