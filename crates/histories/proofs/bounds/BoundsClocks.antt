-- Clocks count no more than the calls of a history.
use Rattle.std.proofs.Common.{◌≡◌, ◌+◌, ◌≤◌, ◌==◌, ◌||◌, max, List, [], ◌∷◌, length, drop, Bool, true, false, if◌then◌else◌, Option, Some, None, Result, Ok, Err, refl, ◌∙◌, arith}
use Rattle.std.specs.List.{All}
use Rattle.std.proofs.lemmas.List.Elements.{All-nil, All-cons, All-weaker}
use Rattle.raid_base.specs.declared.numbers.HostNo.{HostNo}
use Rattle.raid_base.specs.declared.numbers.BayNo.{BayNo}
use Rattle.raid_base.specs.declared.numbers.Number.{Number}
use Rattle.raid_base.specs.declared.numbers.Spent.{Spent}
use Rattle.raid_base.specs.declared.cells.Content.{Content}
use Rattle.raid_base.specs.declared.messages.Call.{Call}
use Rattle.raid_base.specs.declared.messages.Reply.{Reply}
use Rattle.raid_base.specs.declared.jobs.Job.{Job}
use Rattle.raid_base.specs.declared.jobs.Task.{Task}
use Rattle.raid_base.specs.declared.jobs.Task.TheVariants as tasks
use Rattle.raid_base.specs.declared.jobs.Cause.{Cause}
use Rattle.raid_base.specs.declared.jobs.Cause.TheVariants as causes
use Rattle.raid_base.specs.declared.jobs.Ended.{Ended}
use Rattle.raid_base.specs.declared.jobs.Ended.TheVariants as ends
use Rattle.raid_base.specs.declared.jobs.JobEnd.{JobEnd}
use Rattle.raid_base.specs.declared.jobs.JobEnd.TheVariants as job_ends
use Rattle.raid_base.specs.declared.jobs.RowPart.{RowPart}
use Rattle.raid_base.specs.declared.jobs.PartsFault.{PartsFault}
use Rattle.raid_base.specs.Numbers.{draw}
use Rattle.raid_base.specs.Steps.{Steps, Asks, Draws, Ends, told}
use Rattle.attempts.specs.Taking.{Finish}
use Rattle.script_text.specs.Script.{Script, jobs_of, parts_of}
use Rattle.histories.specs.Progress.{Progress, Work, Trying, Losing, Fitting, Over, takes, work_errand, work_told, call_counted, steps_left, asks_on, attempt_ended, attempt_refused, is_spent, row_mended, next_row, once_more, try_again, try_with, try_task, try_parts, parts_end, lose_job, fit_job, rebuild_job, task_of, job_ended, go_on, stops, with_ending, next_job, one_more, start_task, start_jobs, at_start}
use Rattle.histories.specs.declared.operator.Gone.{Gone}
use Rattle.histories.specs.Operator.{is_gone}
use Rattle.histories.specs.History.{if_taken, progress_at, clock_at}
use Rattle.histories.specs.Asked.{IsAsked, AreAsked}
use Rattle.histories.proofs.bounds.BoundsTakes.{before_start, sent-errand}

module _ (script : Script) (host : HostNo) where
  -- the clock stays where a host goes on by itself
  module _ (rest : Progress → Progress) (stays : (q : Progress) → (rest q).clock ≡ q.clock) where
    tried-clock : (p : Progress) (task : Task) (d : Result Number Spent) → (try_with script host task rest p d).clock ≡ p.clock
    tried-clock p task (Ok id) = refl
    tried-clock p task (Err spent) = stays (next_job (with_ending p (job_ends.Gave p.tries (causes.Spent spent.seen)) []))

    try-clock : (p : Progress) (task : Task) → (try_task script host task rest p).clock ≡ p.clock
    try-clock p task = tried-clock (one_more p) task (draw host p.seen)

    parts-clock : (p : Progress) (task : Task) (r : Result (List RowPart) PartsFault) → (try_parts script host task rest p r).clock ≡ p.clock
    parts-clock p task (Ok parts) = try-clock p task
    parts-clock p task (Err fault) = stays (next_job (with_ending p (parts_end fault) []))

    lose-clock : (p : Progress) (bay : BayNo) (gone : Option Gone) → (lose_job rest p bay gone).clock ≡ p.clock
    lose-clock p bay None = refl
    lose-clock p bay (Some gone) = stays (next_job (with_ending p (job_ends.StillMissing gone.bay) []))

    fit-clock : (p : Progress) (bay : BayNo) (lost : Bool) → (fit_job rest p bay lost).clock ≡ p.clock
    fit-clock p bay true = refl
    fit-clock p bay false = stays (next_job (with_ending p (job_ends.NotLost bay) []))

    rebuild-clock : (p : Progress) (bay : BayNo) (fitted : Bool) → (rebuild_job script host rest p bay fitted).clock ≡ p.clock
    rebuild-clock p bay true = try-clock p (tasks.Rebuild bay)
    rebuild-clock p bay false = stays (next_job (with_ending p (job_ends.NotFitted bay) []))

    task-clock : (p : Progress) (task : Task) → (start_task script host rest p task).clock ≡ p.clock
    task-clock p (tasks.Read object first count) = parts-clock p (tasks.Read object first count) (parts_of script object first count)
    task-clock p (tasks.Write object first from count) = parts-clock p (tasks.Write object first from count) (parts_of script object first count)
    task-clock p (tasks.Recover row) = try-clock p (tasks.Recover row)
    task-clock p (tasks.Lose bay) = lose-clock p bay p.gone
    task-clock p (tasks.Fit bay) = fit-clock p bay (is_gone bay false p.gone)
    task-clock p (tasks.Rebuild bay) = rebuild-clock p bay (is_gone bay true p.gone)

  start-clock : (jobs : List Job) (p : Progress) → (start_jobs script host jobs p).clock ≡ p.clock
  start-clock [] p = refl
  start-clock (job ∷ jobs) p = task-clock (start_jobs script host jobs) (start-clock jobs) p job.task

  went-clock : (p : Progress) (stop : Bool) → (go_on script host p stop).clock ≡ p.clock
  went-clock p true = refl
  went-clock p false = start-clock (drop 1 p.jobs) (next_job p)

  ended-clock : (p : Progress) (e : JobEnd) (read : List Content) → (job_ended script host p e read).clock ≡ p.clock
  ended-clock p e read = went-clock (with_ending p e read) (stops p)

  again-clock : (p : Progress) (task : Option Task) → (try_again script host p task).clock ≡ p.clock
  again-clock p None = refl
  again-clock p (Some task) = try-clock (start_jobs script host (drop 1 p.jobs)) (start-clock (drop 1 p.jobs)) p task

  once-clock : (p later : Progress) → later.clock ≡ p.clock → (stop : Bool) → (once_more script host p later stop).clock ≡ p.clock
  once-clock p later same true = ended-clock p (job_ends.Gave p.tries causes.Quit) []
  once-clock p later same false = again-clock later (task_of p.jobs) ∙ same

  refused-clock : (p : Progress) (cause : Cause) (last : Bool) → (attempt_refused script host p cause last).clock ≡ p.clock
  refused-clock p cause true = ended-clock p (job_ends.Gave p.tries cause) []
  refused-clock p cause false = once-clock p p refl (stops p)

  mended-clock : (p : Progress) (last : Bool) → (row_mended script host p last).clock ≡ p.clock
  mended-clock p true = ended-clock (record p { gone = None }) job_ends.Rebuilt []
  mended-clock p false = once-clock p (next_row p) refl (stops p)

  attempt-clock : (p : Progress) (read : List Content) (e : Ended) → (attempt_ended script host p read e).clock ≡ p.clock
  attempt-clock p read (ends.Read n) = ended-clock p (job_ends.Read n) read
  attempt-clock p read (ends.Wrote n) = ended-clock p (job_ends.Wrote n) []
  attempt-clock p read (ends.Part n made cause) = ended-clock p (job_ends.Part n made cause) []
  attempt-clock p read (ends.Recovered n closed lost) = ended-clock p (job_ends.Recovered n closed lost) []
  attempt-clock p read ends.Mended = mended-clock p (p.row + 1 == script.rows)
  attempt-clock p read (ends.Refused cause) = refused-clock p cause ((p.tries == script.tries) || is_spent cause)

  asks-clock : (p : Progress) (steps : Steps Finish) (e : Ended) (stop : Bool) → (asks_on p steps e stop).clock ≡ p.clock
  asks-clock p steps e true = refl
  asks-clock p steps e false = refl

  left-clock : (p : Progress) (steps : Steps Finish) → (steps_left script host p steps).clock ≡ p.clock
  left-clock p (Asks e t c k) = asks-clock p (Asks e t c k) t (stops p)
  left-clock p (Draws k) = refl
  left-clock p (Ends f) = attempt-clock p f.contents f.ended

  told-clock : (p : Progress) (reply : Reply) (work : Work) → (work_told script host p reply work).clock ≡ p.clock
  told-clock p reply (Trying steps) =
      let now = told host (record { seen = p.seen; steps = steps }) reply in
      left-clock (record p { seen = now.seen }) now.steps
  told-clock p reply (Losing bay) = ended-clock (record p { gone = Some (record { bay = bay; fitted = false }) }) job_ends.Lost []
  told-clock p reply (Fitting bay) = ended-clock (record p { gone = Some (record { bay = bay; fitted = true }) }) job_ends.Fitted []
  told-clock p reply Over = refl

  -- a host that has taken a call has the clock of its answer
  pub takes-clock : (p : Progress) (call : Call) → (takes script host p call).clock ≡ call.answer.clock
  takes-clock p call = told-clock (call_counted p call) call.answer.reply p.work

  pub start-at-zero : (at_start script host).clock ≡ 0
  start-at-zero = start-clock (jobs_of script host) (before_start script host)

-- the clocks of a history count its calls at most
pub record ClocksAtMost (script : Script) (history : List Call) : Type 0 where
  pub bays : (bay : BayNo) → clock_at bay history ≤ length history
  pub hosts : (host : HostNo) → (progress_at script host history).clock ≤ length history
  pub answers : All (λ (call : Call). call.answer.clock ≤ length history) history

module _ (script : Script) (call : Call) (earlier : List Call) (next : IsAsked script earlier call) (before : ClocksAtMost script earlier) where
  newest-clock : call.answer.clock ≤ length earlier + 1
  newest-clock =
      let p = progress_at script call.ask.host earlier in
      let sent = sent-errand call.ask.host p.clock call.ask.moment (work_errand p.work) (record { bay = call.bay; ask = call.ask }) next.asked in
      let asked : call.ask.clock ≡ p.clock = sent.3 in
      let answer : call.answer.clock ≡ max (clock_at call.bay earlier) call.ask.clock + 1 = next.clocked in
      omega (arith, asked, answer, before.bays call.bay, before.hosts call.ask.host)

  bay-clock : (bay : BayNo) (here : Bool) → (if here then call.answer.clock else clock_at bay earlier) ≤ length earlier + 1
  bay-clock bay true = newest-clock
  bay-clock bay false = omega (arith, before.bays bay)

  host-clock : (host : HostNo) (here : Bool) → (if_taken script host (progress_at script host earlier) call here).clock ≤ length earlier + 1
  host-clock host true = omega (arith, takes-clock script host (progress_at script host earlier) call, newest-clock)
  host-clock host false = omega (arith, before.hosts host)

  clocks-next : ClocksAtMost script (call ∷ earlier)
  clocks-next =
      let P : Call → Type 0 = λ c. c.answer.clock ≤ length (call ∷ earlier) in
      record {
        bays = λ bay. omega (arith, bay-clock bay (call.bay.0 == bay.0));
        hosts = λ host. omega (arith, host-clock host (call.ask.host.0 == host.0));
        answers = All-cons P call earlier (omega (arith, newest-clock))
            (All-weaker (λ (c : Call). c.answer.clock ≤ length earlier) P (λ c less. omega (arith, less)) earlier before.answers);
      }

pub clocks-at-most : (script : Script) (history : List Call) → AreAsked script history → ClocksAtMost script history
clocks-at-most script [] is = record {
  bays = λ bay. omega arith;
  hosts = λ host. omega (arith, start-at-zero script host);
  answers = All-nil (λ (call : Call). call.answer.clock ≤ 0);
}
clocks-at-most script (call ∷ earlier) is = clocks-next script call earlier is.1 (clocks-at-most script earlier is.0)
