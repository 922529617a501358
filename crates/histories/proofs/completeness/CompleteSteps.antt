-- Along a history a read or a write whose attempt no reply refuses goes on with it, or is done with it.
use Rattle.std.proofs.Common.{◌≡◌, ◌⊎◌, inl, inr, refl, sym, ap, subst, ◌∙◌, ℕ, ◌^◌, ◌≤◌, ◌==◌, ◌||◌, ◌&&◌, ◌+◌, not, Bool, true, false, List, [], ◌∷◌, ◌++◌, append_assoc, append-nil, drop, Option, Some, None, is_some, Result, Ok, Err, arith}
use Rattle.std.specs.List.{AllByRecursion}
use Rattle.std.proofs.lemmas.Bool.Decides.{nat_tests}
use Rattle.raid_base.specs.declared.numbers.BayNo.{BayNo}
use Rattle.raid_base.specs.declared.numbers.HostNo.{HostNo}
use Rattle.raid_base.specs.declared.numbers.Number.{Number}
use Rattle.raid_base.specs.declared.numbers.Spent.{Spent}
use Rattle.raid_base.specs.declared.cells.Content.{Content}
use Rattle.raid_base.specs.declared.messages.Call.{Call}
use Rattle.raid_base.specs.declared.jobs.Job.{Job}
use Rattle.raid_base.specs.declared.jobs.Task.{Task}
use Rattle.raid_base.specs.declared.jobs.Task.TheVariants as tasks
use Rattle.raid_base.specs.declared.jobs.RowPart.{RowPart}
use Rattle.raid_base.specs.declared.jobs.PartsFault.{PartsFault}
use Rattle.raid_base.specs.declared.jobs.Cause.{Cause}
use Rattle.raid_base.specs.declared.jobs.Cause.TheVariants as causes
use Rattle.raid_base.specs.declared.jobs.Ended.{Ended}
use Rattle.raid_base.specs.declared.jobs.Ended.TheVariants as ends
use Rattle.raid_base.specs.declared.jobs.JobEnd.{JobEnd}
use Rattle.raid_base.specs.declared.jobs.JobEnd.TheVariants as job_ends
use Rattle.raid_base.specs.Numbers.{draw}
use Rattle.raid_base.specs.Steps.{Steps, Asks, Draws, Ends, Standing, answer, told, next_errand, errand_of}
use Rattle.attempts.specs.Taking.{Finish}
use Rattle.attempts.proofs.RoomLemmas.{all-right}
use Rattle.script_text.specs.Script.{Script, parts_of}
use Rattle.script_text.specs.Ranges.{IsScript}
use Rattle.script_text.specs.Weights.{total}
use Rattle.histories.specs.declared.operator.Gone.{Gone}
use Rattle.histories.specs.Operator.{is_gone}
use Rattle.histories.specs.Progress.{Ending, Work, Trying, Losing, Fitting, Over, Progress, work_errand, endings_of, with_ending, next_job, try_with, one_more, try_task, ends_as, parts_end, try_parts, lose_job, fit_job, rebuild_job, start_task, start_jobs, job_stops, stops, go_on, is_spent, attempt_refused, attempt_ended, asks_on, steps_left, work_told, call_counted}
use Rattle.histories.specs.History.{if_taken, progress_at, IsHistory}
use Rattle.histories.specs.Causes.{IsReadOrWrite}
use Rattle.histories.specs.Smallness.{wants_numbers, HasNumbers}
use Rattle.histories.specs.Completeness.{AreUnrefused, IsDoneBy, IsUnderWay, IsDoneWith, CanBeDone, ends_by, GoesOnUnrefused, UnrefusedGoOn, UnrefusedAttemptsGoOn}
use Rattle.histories.proofs.smallness.SmallHistory.{numbers_stay_small}
use Rattle.histories.proofs.completeness.CompleteCauses.{IsFit, AreFit}
use Rattle.histories.proofs.completeness.CompleteWalks.{job_end}
use Rattle.histories.proofs.completeness.CompleteHistory.{Fated, told-fated, done-by, Works, TriesTask, StandsWell, history-stands}
use Rattle.histories.proofs.hands.Attempting.{asked-errand, reply-fits}

-- what has ended since stands behind what had ended before
record Adds (before : List Ending) (now : Progress) : Type 0 where
  pub later : List Ending
  pub endings : now.endings ≡ before ++ later

-- a read or a write is not done where it is given up, or rebuilt
not-given : (task : Task) (tries : ℕ) (cause : Cause) → IsReadOrWrite task → IsDoneBy task (job_ends.Gave tries cause) → ⊥
not-given (tasks.Read object first count) tries cause plain done = done
not-given (tasks.Write object first from count) tries cause plain done = done
not-given (tasks.Recover row) tries cause plain done = plain
not-given (tasks.Rebuild bay) tries cause plain done = plain
not-given (tasks.Lose bay) tries cause plain done = plain
not-given (tasks.Fit bay) tries cause plain done = plain

not-rebuilt : (task : Task) → IsReadOrWrite task → IsDoneBy task job_ends.Rebuilt → ⊥
not-rebuilt (tasks.Read object first count) plain done = done
not-rebuilt (tasks.Write object first from count) plain done = done
not-rebuilt (tasks.Recover row) plain done = plain
not-rebuilt (tasks.Rebuild bay) plain done = plain
not-rebuilt (tasks.Lose bay) plain done = plain
not-rebuilt (tasks.Fit bay) plain done = plain

-- a host that stops here is at the end of its attempt
not-cut : (a b : Bool) → a ≡ true → b ≡ false → (a && not b) ≡ false → ⊥
not-cut true true s n e = cc
not-cut true false s n e = cc
not-cut false b s n e = cc

or-neither : (a b : Bool) → (a || b) ≡ false → b ≡ false
or-neither true b e = cc
or-neither false b e = e

module _ (script : Script) (host : HostNo) where
  -- Jobs that end without a request
  module _ (rest : Progress → Progress) (adds : (q : Progress) → Adds q.endings (rest q)) (p : Progress) where
    ends-adds : (q : Progress) (e : JobEnd) → Adds q.endings (ends_as rest q e)
    ends-adds q e =
        let more : Adds (q.endings ++ endings_of q.jobs e [] q) (ends_as rest q e) = adds (next_job (with_ending q e [])) in
        record { later = endings_of q.jobs e [] q ++ more.later; endings = more.endings ∙ append_assoc q.endings (endings_of q.jobs e [] q) more.later }

    -- none has
    with-none : (now : Progress) → now.endings ≡ p.endings → Adds p.endings now
    with-none now same = record { later = []; endings = same ∙ sym (append-nil p.endings) }

    tries-with : (task : Task) (d : Result Number Spent) → Adds p.endings (try_with script host task rest (one_more p) d)
    tries-with task (Ok id) = with-none (try_with script host task rest (one_more p) (Ok id)) refl
    tries-with task (Err spent) = ends-adds (one_more p) (job_ends.Gave (one_more p).tries (causes.Spent spent.seen))

    tries-add : (task : Task) → Adds p.endings (try_task script host task rest p)
    tries-add task = tries-with task (draw host p.seen)

    parts-add : (task : Task) (r : Result (List RowPart) PartsFault) → Adds p.endings (try_parts script host task rest p r)
    parts-add task (Ok parts) = tries-add task
    parts-add task (Err fault) = ends-adds p (parts_end fault)

    loses-add : (bay : BayNo) (gone : Option Gone) → Adds p.endings (lose_job rest p bay gone)
    loses-add bay None = with-none (record p { work = Losing bay }) refl
    loses-add bay (Some gone) = ends-adds p (job_ends.StillMissing gone.bay)

    fits-add : (bay : BayNo) (lost : Bool) → Adds p.endings (fit_job rest p bay lost)
    fits-add bay true = with-none (record p { work = Fitting bay }) refl
    fits-add bay false = ends-adds p (job_ends.NotLost bay)

    rebuilds-add : (bay : BayNo) (fitted : Bool) → Adds p.endings (rebuild_job script host rest p bay fitted)
    rebuilds-add bay true = tries-add (tasks.Rebuild bay)
    rebuilds-add bay false = ends-adds p (job_ends.NotFitted bay)

    starts-add : (task : Task) → Adds p.endings (start_task script host rest p task)
    starts-add (tasks.Read object first count) = parts-add (tasks.Read object first count) (parts_of script object first count)
    starts-add (tasks.Write object first from count) = parts-add (tasks.Write object first from count) (parts_of script object first count)
    starts-add (tasks.Recover row) = tries-add (tasks.Recover row)
    starts-add (tasks.Lose bay) = loses-add bay p.gone
    starts-add (tasks.Fit bay) = fits-add bay (is_gone bay false p.gone)
    starts-add (tasks.Rebuild bay) = rebuilds-add bay (is_gone bay true p.gone)

  jobs-add : (jobs : List Job) (p : Progress) → Adds p.endings (start_jobs script host jobs p)
  jobs-add [] p = record { later = []; endings = sym (append-nil p.endings) }
  jobs-add (job ∷ jobs) p = starts-add (start_jobs script host jobs) (jobs-add jobs) p job.task

  -- no job that has ended wanted numbers
  abbrev HaveNumbers : Progress → Type 0
  HaveNumbers now = AllByRecursion HasNumbers now.endings

  module _ (p : Progress) (call : Call) where
    abbrev GoesOn : Progress → Type 0
    GoesOn now = IsUnderWay p now call ⊎ IsDoneWith p now call

    -- where the call was taken, and the job in hand is a read or a write
    module _ (q : Progress) (same_jobs : q.jobs ≡ p.jobs) (ended : q.endings ≡ p.endings) (tried : q.tries ≡ p.tries) (called : q.calls ≡ call ∷ p.calls)
        (job : Job) (jobs : List Job) (first : q.jobs ≡ job ∷ jobs) (plain : IsReadOrWrite job.task) where
      -- the job ends
      on-adds : (e : JobEnd) (read : List Content) (stopped : Bool) → Adds (q.endings ++ endings_of q.jobs e read q) (go_on script host (with_ending q e read) stopped)
      on-adds e read true = record { later = []; endings = sym (append-nil (q.endings ++ endings_of q.jobs e read q)) }
      on-adds e read false = jobs-add (drop 1 q.jobs) (next_job (with_ending q e read))

      is-done : (e : JobEnd) (read : List Content) → (wants_numbers e ≡ false → IsDoneBy job.task e) → (stopped : Bool)
          → HaveNumbers (go_on script host (with_ending q e read) stopped) → IsDoneWith p (go_on script host (with_ending q e read) stopped) call
      is-done e read does stopped numbers =
          let now : Progress = go_on script host (with_ending q e read) stopped in
          let ending : Ending = record { job = job; ended = e; contents = read; asked = q.asked; tries = q.tries; calls = q.calls } in
          let more : Adds (q.endings ++ endings_of q.jobs e read q) now = on-adds e read stopped in
          let one : q.endings ++ endings_of q.jobs e read q ≡ q.endings ++ ending ∷ [] = ap (λ (js : List Job). q.endings ++ endings_of js e read q) first in
          let behind_old : q.endings ++ ending ∷ [] ≡ p.endings ++ ending ∷ [] = ap (λ (es : List Ending). es ++ ending ∷ []) ended in
          let all : now.endings ≡ p.endings ++ ending ∷ more.later =
          more.endings ∙ ap (λ (es : List Ending). es ++ more.later) (one ∙ behind_old) ∙ append_assoc p.endings (ending ∷ []) more.later in
          let has : HasNumbers ending = (all-right HasNumbers p.endings (ending ∷ more.later) (subst (AllByRecursion HasNumbers) all numbers)).0 in
          record {
            ending = ending;
            left = jobs;
            later = more.later;
            job = sym same_jobs ∙ first;
            endings = all;
            tries = tried;
            calls = called;
            done = does has;
          }

      -- its attempt ends
      abbrev DoesTask : Ended → Type 0
      DoesTask e = (tries : ℕ) → wants_numbers (job_end tries e) ≡ false → IsDoneBy job.task (job_end tries e)

      refused-done : (cause : Cause) → DoesTask (ends.Refused cause) → (last : Bool) → ((q.tries == script.tries) || is_spent cause) ≡ last
          → HaveNumbers (attempt_refused script host q cause last) → IsDoneWith p (attempt_refused script host q cause last) call
      refused-done cause does true at numbers = is-done (job_ends.Gave q.tries cause) [] (does q.tries) (stops q) numbers
      refused-done cause does false at numbers = absurd (not-given job.task q.tries cause plain (does q.tries (or-neither (q.tries == script.tries) (is_spent cause) at)))

      attempt-done : (read : List Content) (e : Ended) → DoesTask e → HaveNumbers (attempt_ended script host q read e) → IsDoneWith p (attempt_ended script host q read e) call
      attempt-done read (ends.Read n) does numbers = is-done (job_ends.Read n) read (does q.tries) (stops q) numbers
      attempt-done read (ends.Wrote n) does numbers = is-done (job_ends.Wrote n) [] (does q.tries) (stops q) numbers
      attempt-done read (ends.Part n made cause) does numbers = is-done (job_ends.Part n made cause) [] (does q.tries) (stops q) numbers
      attempt-done read (ends.Recovered n closed lost) does numbers = is-done (job_ends.Recovered n closed lost) [] (does q.tries) (stops q) numbers
      attempt-done read (ends.Refused cause) does numbers = refused-done cause does ((q.tries == script.tries) || is_spent cause) refl numbers
      attempt-done read ends.Mended does numbers = absurd (not-rebuilt job.task plain (does q.tries refl))

      -- or asks on
      under-way : (now : Progress) → now.jobs ≡ q.jobs → now.endings ≡ q.endings → now.tries ≡ q.tries → now.calls ≡ q.calls → GoesOn now
      under-way now j e t c = inl (record { jobs = j ∙ same_jobs; endings = e ∙ ended; tries = t ∙ tried; calls = c ∙ called })

      asks-go : (steps : Steps Finish) (stop : Ended) (stopped : Bool) → (stopped ≡ true → ⊥) → GoesOn (asks_on q steps stop stopped)
      asks-go steps stop true stays = absurd (stays refl)
      asks-go steps stop false stays = under-way (asks_on q steps stop false) refl refl refl refl

      left-go : AreFit q.calls → AreUnrefused script.mode q.calls → (steps : Steps Finish) → (stops q ≡ true → is_some (answer steps) ≡ false → ⊥)
          → Fated script host job.task q.calls steps → HaveNumbers (steps_left script host q steps) → GoesOn (steps_left script host q steps)
      left-go fit good (Asks e t c k) stays fated numbers = asks-go (Asks e t c k) t (stops q) (λ s. stays s refl)
      left-go fit good (Draws k) stays fated numbers = under-way (steps_left script host q (Draws k)) refl refl refl refl
      left-go fit good (Ends finish) stays fated numbers =
          inr (attempt-done finish.contents finish.ended
          (λ tries numbered. done-by script host job.task plain q.calls fit good tries finish.ended fated.caused fated.ends numbered) numbers)

    -- what the reply does
    module _ (fit : IsFit call) (fits_before : AreFit p.calls) (good : AreUnrefused script.mode (call ∷ p.calls)) where
      -- the host does not stop with this call, or the attempt is at its end
      abbrev Stays : Work → Type 0
      Stays work = (job_stops p.jobs (p.asked + 1) && not (ends_by host p call.answer.reply work)) ≡ false

      trying-goes : (job : Job) (jobs : List Job) → p.jobs ≡ job ∷ jobs → CanBeDone script (job ∷ jobs) → (steps : Steps Finish) → Stays (Trying steps)
          → TriesTask script host job.task p.calls steps → next_errand steps ≡ Some (errand_of call)
          → HaveNumbers (work_told script host (call_counted p call) call.answer.reply (Trying steps))
          → GoesOn (work_told script host (call_counted p call) call.answer.reply (Trying steps))
      trying-goes job jobs first can steps stays tries asked numbers =
          let now : Standing Finish = told host (record { seen = p.seen; steps = steps }) call.answer.reply in
          left-go (record (call_counted p call) { seen = now.seen }) refl refl refl refl job jobs first can.0 (fit, fits_before) good now.steps
          (λ stopped asks. not-cut (job_stops p.jobs (p.asked + 1)) (is_some (answer now.steps)) stopped asks stays)
          (told-fated script host job.task p.calls p.seen steps call fit asked (tries can.0 can.1)) numbers

      work-goes : (js : List Job) → p.jobs ≡ js → CanBeDone script js → (work : Work) → Stays work → Works script host p.calls js work → work_errand work ≡ Some (errand_of call)
          → HaveNumbers (work_told script host (call_counted p call) call.answer.reply work) → GoesOn (work_told script host (call_counted p call) call.answer.reply work)
      work-goes [] first can work stays works asked numbers = absurd can
      work-goes (job ∷ jobs) first can (Trying steps) stays works asked numbers = trying-goes job jobs first can steps stays works asked numbers
      work-goes (job ∷ jobs) first can (Losing bay) stays works asked numbers = absurd (works can.0)
      work-goes (job ∷ jobs) first can (Fitting bay) stays works asked numbers = absurd (works can.0)
      work-goes (job ∷ jobs) first can Over stays works asked numbers = absurd (cc)

-- Calls
its-own : (host : HostNo) → (host.0 == host.0) ≡ true
its-own host = grind (arith, nat_tests)

module _ (script : Script) (is : IsScript script) (light : total script ≤ 2 ^ 20) where
  call-goes : (earlier : List Call) (call : Call) → IsHistory script (call ∷ earlier) → GoesOnUnrefused script call.ask.host earlier call
  call-goes earlier call along can stays good =
      by (call.ask.host.0 == call.ask.host.0) refl ((numbers_stay_small script (call ∷ earlier) is light along).2 host) where
        host : HostNo
        host = call.ask.host

        p : Progress
        p = progress_at script host earlier

        stands : StandsWell script host p
        stands = history-stands script host earlier along.0

        by : (own : Bool) → (host.0 == host.0) ≡ own → AllByRecursion HasNumbers (if_taken script host p call own).endings
            → IsUnderWay p (if_taken script host p call own) call ⊎ IsDoneWith p (if_taken script host p call own) call
        by true own numbers =
            work-goes script host p call (reply-fits script earlier call along.1) stands.sound.fit good p.jobs refl can p.work stays stands.work (asked-errand script earlier call along.1) numbers
        by false own numbers = absurd (let same : (host.0 == host.0) ≡ true = its-own host in cc)

  calls-go : (history : List Call) → IsHistory script history → UnrefusedGoOn script history
  calls-go [] along = tt
  calls-go (call ∷ earlier) along = (calls-go earlier along.0, call-goes earlier call along)

pub unrefused_attempts_go_on : UnrefusedAttemptsGoOn
unrefused_attempts_go_on script history is light along = calls-go script is light history along
