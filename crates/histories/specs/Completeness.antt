-- Jobs whose attempt no reply refuses are done.
use Rattle.std.specs.Prelude.{◌≡◌, ◌⊎◌, ◌^◌, ◌+◌, ◌≤◌, ◌&&◌, ◌||◌, not, Bool, true, false, if◌then◌else◌, List, [], ◌∷◌, ◌++◌, Option, Some, None, is_none, is_some, IsOk}
use Rattle.std.specs.List.{AllByRecursion}
use Rattle.raid_base.specs.declared.numbers.BayNo.{BayNo}
use Rattle.raid_base.specs.declared.numbers.HostNo.{HostNo}
use Rattle.raid_base.specs.declared.numbers.Number.{Number}
use Rattle.raid_base.specs.declared.numbers.RowNo.{RowNo}
use Rattle.raid_base.specs.declared.messages.Mode.{Mode}
use Rattle.raid_base.specs.declared.messages.Request.{Request}
use Rattle.raid_base.specs.declared.messages.Request.TheVariants.{Share, Claim, Confirm, Put, Release, Lose, Fit}
use Rattle.raid_base.specs.declared.messages.Reply.{Reply}
use Rattle.raid_base.specs.declared.messages.Reply.TheVariants as replies
use Rattle.raid_base.specs.declared.messages.Call.{Call}
use Rattle.raid_base.specs.declared.jobs.Cause.{Cause}
use Rattle.raid_base.specs.declared.jobs.Cause.TheVariants as causes
use Rattle.raid_base.specs.declared.jobs.Job.{Job}
use Rattle.raid_base.specs.declared.jobs.Task.{Task}
use Rattle.raid_base.specs.declared.jobs.Task.TheVariants as tasks
use Rattle.raid_base.specs.declared.jobs.JobEnd.{JobEnd}
use Rattle.raid_base.specs.declared.jobs.JobEnd.TheVariants as ends
use Rattle.raid_base.specs.Replies.{is_missing, is_fault}
use Rattle.raid_base.specs.Steps.{answer, told}
use Rattle.slot_rules.specs.Laws.{is_refused}
use Rattle.attempts.specs.Taking.{behind_from, refusal}
use Rattle.script_text.specs.Script.{Script}
use Rattle.script_text.specs.Ranges.{IsScript}
use Rattle.script_text.specs.Weights.{total}
use Rattle.histories.specs.Plain.{task_parts}
use Rattle.histories.specs.Calls.{IsClaim}
use Rattle.histories.specs.Progress.{Ending, Work, Trying, Losing, Fitting, Over, Progress, stops_at, job_stops}
use Rattle.histories.specs.Causes.{IsReadOrWrite}
use Rattle.histories.specs.History.{IsHistory, progress_at, endings_at}

-- What refuses an attempt. The bay that was missing, where one of these calls was told so, the newest first
abbrev pub missing_in : List Call → Option BayNo
missing_in [] = None
missing_in (call ∷ earlier) =
    if is_missing call.answer.reply then Some call.bay else missing_in earlier

-- the note of a put or a release was gone
abbrev pub is_unnoted : Reply → Bool
is_unnoted (replies.NoNote life) = true
is_unnoted _ = false

-- A confirm is held where the claim was granted, with a cell where one is due, and missing where the claim was missing.
-- Whether such a reply is another one
abbrev pub is_undue : Bool → Bool → Reply → Bool
is_undue due lacking (replies.Held cell) = lacking || (due && is_none cell)
is_undue due lacking (replies.Missing floor) = not lacking
is_undue due lacking (replies.NoNote life) = true
is_undue due lacking (replies.Granted cell read_no write_no last life seized) = false
is_undue due lacking (replies.Busy holder) = false
is_undue due lacking (replies.Late above) = false
is_undue due lacking (replies.Young note) = false
is_undue due lacking replies.Fault = false
is_undue due lacking replies.Done = false
is_undue due lacking replies.Emptied = false
is_undue due lacking replies.Fitted = false

-- where this earlier call claimed the slot, its confirm is answered as is due
abbrev pub IsDue : BayNo → RowNo → Bool → Reply → Call → Type 0
IsDue bay row due reply claim =
    IsClaim bay row claim → is_undue due (is_missing claim.answer.reply) reply ≡ false

-- A share, claim or confirm with this id is not refused by the rules of attempts: one missing bay is no refusal
abbrev pub IsAllowed : Mode → Number → List Call → BayNo → Reply → Type 0
IsAllowed mode id earlier bay reply =
    refusal (behind_from mode id) (missing_in earlier) bay reply ≡ None

-- By request, after these calls of the attempt, a reply that does not refuse it. Shares and claims are allowed, and a
-- confirm is answered as is due besides, with a cell where it is wanted after a slot was missing. A put meets no fault, and
-- its note is there. So is that of a release that tells a number, as a read's do; the reply to any other does not matter
abbrev pub MeetsNone : Mode → List Call → BayNo → Request → Reply → Type 0
MeetsNone mode earlier bay (Share row id want) reply = IsAllowed mode id earlier bay reply
MeetsNone mode earlier bay (Claim row id how mask want) reply = IsAllowed mode id earlier bay reply
MeetsNone mode earlier bay (Confirm row id want) reply =
    IsAllowed mode id earlier bay reply
    × AllByRecursion (IsDue bay row (want && is_some (missing_in earlier)) reply) earlier
MeetsNone mode earlier bay (Put row id n cell) reply = (is_unnoted reply || is_fault reply) ≡ false
MeetsNone mode earlier bay (Release row id (Some n)) reply = is_unnoted reply ≡ false
MeetsNone mode earlier bay (Release row id None) reply = Unit {0}
MeetsNone mode earlier bay Lose reply = Unit {0}
MeetsNone mode earlier bay Fit reply = Unit {0}

-- no reply to these calls of an attempt, the newest first, refuses it
abbrev pub AreUnrefused : Mode → List Call → Type 0
AreUnrefused mode [] = Unit {0}
AreUnrefused mode (call ∷ earlier) =
    MeetsNone mode earlier call.bay call.ask.what call.answer.reply × AreUnrefused mode earlier

-- So it is where no reply is a refusal by the rules of slots, for which a missing slot is one, and a note that is gone.
abbrev pub MeetNoRefusal : List Call → Type 0
MeetNoRefusal calls = AllByRecursion (λ (call : Call). is_refused call.answer.reply ≡ false) calls

abbrev pub PlainCallsAreUnrefused : Type 0
PlainCallsAreUnrefused =
    (mode : Mode) (calls : List Call) → MeetNoRefusal calls → AreUnrefused mode calls

-- how a read ends that is done
abbrev pub IsReadDone : JobEnd → Type 0
IsReadDone (ends.Read n) = Unit {0}
IsReadDone _ = ⊥

-- and a write
abbrev pub IsWriteDone : JobEnd → Type 0
IsWriteDone (ends.Wrote n) = Unit {0}
IsWriteDone _ = ⊥

-- a read or a write ends as done; of other tasks nothing is said
abbrev pub IsDoneBy : Task → JobEnd → Type 0
IsDoneBy (tasks.Read object first count) ended = IsReadDone ended
IsDoneBy (tasks.Write object first from count) ended = IsWriteDone ended
IsDoneBy _ ended = Unit {0}

-- The host stopped before the attempt was at its end: the job has that cause, and a recovery is not closed
abbrev pub is_quit : Cause → Bool
is_quit causes.Quit = true
is_quit _ = false

abbrev pub is_cut : JobEnd → Bool
is_cut (ends.Part n made cause) = is_quit cause
is_cut (ends.Gave tries cause) = is_quit cause
is_cut (ends.Recovered n closed lost) = not closed
is_cut _ = false

-- and the job was to stop after so many requests
abbrev pub is_stopped : Ending → Bool
is_stopped e = stops_at e.job.quit e.asked && is_cut e.ended

-- a read or a write that has parts, and in which its host did not stop, is done where no reply refused its last attempt
abbrev pub IsDoneUnrefused : Script → Ending → Type 0
IsDoneUnrefused script e =
    IsReadOrWrite e.job.task → IsOk (task_parts script e.job.task) → is_stopped e ≡ false →
    AreUnrefused script.mode e.calls → IsDoneBy e.job.task e.ended

-- each that has ended is so
abbrev pub UnrefusedAreDone : Script → List Call → Type 0
UnrefusedAreDone script history = (host : HostNo) → AllByRecursion (IsDoneUnrefused script) (endings_at script history host)

-- So it is in every history.
abbrev pub UnrefusedJobsAreDone : Type 0
UnrefusedJobsAreDone = (script : Script) (history : List Call) → IsScript script → total script ≤ 2 ^ 20 → IsHistory script history → UnrefusedAreDone script history

-- Attempt by attempt. After its call an attempt is under way
pub record IsUnderWay (before now : Progress) (call : Call) : Type 0 where
  pub jobs : now.jobs ≡ before.jobs
  pub endings : now.endings ≡ before.endings
  pub tries : now.tries ≡ before.tries
  pub calls : now.calls ≡ call ∷ before.calls

-- or its job is done with it; jobs behind that one may have ended without a request
pub record IsDoneWith (before now : Progress) (call : Call) : Type 0 where
  pub ending : Ending
  pub left : List Job
  pub later : List Ending
  pub job : before.jobs ≡ ending.job ∷ left
  pub endings : now.endings ≡ before.endings ++ ending ∷ later
  pub tries : ending.tries ≡ before.tries
  pub calls : ending.calls ≡ call ∷ before.calls
  pub done : IsDoneBy ending.job.task ending.ended

-- the first of these jobs is a read or a write that has parts
abbrev pub CanBeDone : Script → List Job → Type 0
CanBeDone script [] = ⊥
CanBeDone script (job ∷ jobs) = IsReadOrWrite job.task × IsOk (task_parts script job.task)

-- the attempt in hand is at its end with this reply
abbrev pub ends_by : HostNo → Progress → Reply → Work → Bool
ends_by host p reply (Trying steps) =
    is_some (answer (told host (record { seen = p.seen; steps = steps }) reply).steps)
ends_by host p reply (Losing bay) = true
ends_by host p reply (Fitting bay) = true
ends_by host p reply Over = true

-- the host stops with this reply, which is to the last request of its job, before the attempt is at its end
abbrev pub stops_with : HostNo → Progress → Reply → Bool
stops_with host p reply = job_stops p.jobs (p.asked + 1) && not (ends_by host p reply p.work)

-- An attempt of such a job that no reply has refused, and in which its host does not stop, goes on, or its job is done
-- with it: it is not tried again.
abbrev pub GoesOnUnrefused : Script → HostNo → List Call → Call → Type 0
GoesOnUnrefused script host earlier call =
    CanBeDone script (progress_at script host earlier).jobs →
    stops_with host (progress_at script host earlier) call.answer.reply ≡ false →
    AreUnrefused script.mode (call ∷ (progress_at script host earlier).calls) →
    IsUnderWay (progress_at script host earlier) (progress_at script host (call ∷ earlier)) call
    ⊎ IsDoneWith (progress_at script host earlier) (progress_at script host (call ∷ earlier)) call

-- So it is with each call of a history.
abbrev pub UnrefusedGoOn : Script → List Call → Type 0
UnrefusedGoOn script [] = Unit {0}
UnrefusedGoOn script (call ∷ earlier) = UnrefusedGoOn script earlier × GoesOnUnrefused script call.ask.host earlier call

abbrev pub UnrefusedAttemptsGoOn : Type 0
UnrefusedAttemptsGoOn = (script : Script) (history : List Call) → IsScript script → total script ≤ 2 ^ 20 → IsHistory script history → UnrefusedGoOn script history
