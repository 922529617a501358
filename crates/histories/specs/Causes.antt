-- What stands behind the cause in a result.
use Rattle.std.specs.Prelude.{◌≡◌, ◌≢◌, ◌⊎◌, ℕ, ◌≤◌, not, ◌||◌, Bool, true, false, List, [], ◌∷◌, ◌++◌, Some, is_some, IsNone}
use Rattle.std.specs.List.{Contains}
use Rattle.raid_base.specs.declared.numbers.HostNo.{HostNo}
use Rattle.raid_base.specs.declared.numbers.BayNo.{BayNo}
use Rattle.raid_base.specs.declared.numbers.RowNo.{RowNo}
use Rattle.raid_base.specs.declared.numbers.Number.{Number}
use Rattle.raid_base.specs.declared.messages.Mode.TheVariants.{Lock, Order}
use Rattle.raid_base.specs.declared.messages.How.TheVariants.{Mend}
use Rattle.raid_base.specs.declared.messages.Request.TheVariants.{Claim, Confirm, Put, Release}
use Rattle.raid_base.specs.declared.messages.Reply.{Reply}
use Rattle.raid_base.specs.declared.messages.Reply.TheVariants as replies
use Rattle.raid_base.specs.declared.jobs.Task.{Task}
use Rattle.raid_base.specs.declared.jobs.Task.TheVariants as tasks
use Rattle.raid_base.specs.declared.jobs.Cause.{Cause}
use Rattle.raid_base.specs.declared.jobs.Cause.TheVariants as causes
use Rattle.raid_base.specs.declared.jobs.JobEnd.{JobEnd}
use Rattle.raid_base.specs.declared.jobs.JobEnd.TheVariants as ends
use Rattle.raid_base.specs.declared.cells.Cell.{Cell}
use Rattle.raid_base.specs.declared.messages.Call.{Call}
use Rattle.raid_base.specs.Numbers.{next_number, sees}
use Rattle.raid_base.specs.declared.messages.Grant.{Grant}
use Rattle.raid_base.specs.Replies.{grant_of}
use Rattle.raid_base.specs.Steps.{Steps, draws, behind}
use Rattle.stripe_layout.specs.Placement.{parity_bay}
use Rattle.attempts.specs.Taking.{Finish}
use Rattle.script_text.specs.Script.{Script}
use Rattle.histories.specs.Progress.{Ending, Progress, Trying}
use Rattle.histories.specs.History.{progress_at, endings_at}
use Rattle.histories.specs.Calls.{Happened, HappenedAfter, Sometime, id_of, IsClaim, Answers}
use Rattle.histories.specs.Torn.{IsMissing}

-- a read or a write under stamps was told a floor that is not below its id
abbrev pub IsFloorFrom : Number → Call → Type 0
IsFloorFrom floor call = Answers (replies.Missing floor) call × (id : Number) × (id_of call.ask.what ≡ Some id) × (id.0 ≤ floor.0)

abbrev pub IsReadOrWrite : Task → Type 0
IsReadOrWrite (tasks.Read object first count) = Unit {0}
IsReadOrWrite (tasks.Write object first from count) = Unit {0}
IsReadOrWrite _ = ⊥

abbrev pub IsRead : Task → Type 0
IsRead (tasks.Read object first count) = Unit {0}
IsRead _ = ⊥

-- so that it is refused as Behind
abbrev pub IsBehind : Script → Task → Call → Type 0
IsBehind script task call = (script.mode ≡ Order) × IsReadOrWrite task × (floor : Number) × IsFloorFrom floor call

abbrev pub IsMissingAt : BayNo → Call → Type 0
IsMissingAt bay call = (call.bay ≡ bay) × IsMissing call

-- a slot is missing, with a floor that does not refuse as Behind
abbrev pub IsLackingAt : Script → Task → BayNo → Call → Type 0
IsLackingAt script task bay call = IsMissingAt bay call × ¬ (IsBehind script task call)

-- a rebuild's claim of a slot on this bay
abbrev pub IsMendClaim : BayNo → Call → Type 0
IsMendClaim bay call = (call.bay ≡ bay) × (row : RowNo) × (id : Number) × (call.ask.what ≡ Claim row id Mend 0 true)

-- it was granted, and shows no cell
abbrev pub IsBare : Call → Type 0
IsBare call = (grant : Grant) × (grant_of call.answer.reply ≡ Some grant) × IsNone grant.cell

-- a confirm of the row's parity with this reply
abbrev pub IsConfirm : ℕ → RowNo → Call → Type 0
IsConfirm n row call = (call.bay ≡ parity_bay n row) × (id : Number) × (want : Bool) × (call.ask.what ≡ Confirm row id want)

-- it is not held with a cell where one is wanted
abbrev pub is_held_well : Bool → Reply → Bool
is_held_well want (replies.Held cell) = not want || is_some cell
is_held_well want _ = false

abbrev pub IsHeldBadly : ℕ → RowNo → Call → Type 0
IsHeldBadly n row call =
    (call.bay ≡ parity_bay n row) × (id : Number) × (want : Bool) × (call.ask.what ≡ Confirm row id want) × (is_held_well want call.answer.reply ≡ false)

abbrev pub IsFound : ℕ → RowNo → Call → Type 0
IsFound n row call = IsConfirm n row call × ¬ (IsMissing call)

abbrev pub IsGranted : ℕ → RowNo → Call → Type 0
IsGranted n row call = IsClaim (parity_bay n row) row call × (grant : Grant) × (grant_of call.answer.reply ≡ Some grant)

abbrev pub IsLacking : ℕ → RowNo → Call → Type 0
IsLacking n row call = IsClaim (parity_bay n row) row call × IsMissing call

-- a claim found the slot gone: of a rebuild, or of the parity in a recovery of another host than 0
abbrev pub IsGone : Script → HostNo → BayNo → Task → List Call → Type 0
IsGone script host bay (tasks.Rebuild target) calls =
    Happened (λ call. IsMendClaim bay call × IsMissing call) calls
    ⊎ ((target ≢ bay) × Happened (λ call. IsMendClaim bay call × IsBare call) calls)
IsGone script host bay (tasks.Recover row) calls = (host.0 ≢ 0) × (bay ≡ parity_bay script.n row) × Happened (IsLacking script.n row) calls
IsGone script host bay _ calls = ⊥

-- after these calls the reply has a cause of its own: a fault, Behind, or a second missing bay
abbrev pub HasOwnCause : Script → Task → List Call → Call → Type 0
HasOwnCause script task earlier call =
    Answers replies.Fault call
    ⊎ (IsBehind script task call
    ⊎ (IsMissing call × (other : BayNo) × (other ≢ call.bay) × Happened (IsMissingAt other) earlier))

-- a parity granted is not held, or one missing is not, by a reply without a cause of its own
abbrev pub IsChange : Script → Task → RowNo → List Call → Call → Type 0
IsChange script task row earlier call =
    ¬ (HasOwnCause script task earlier call)
    × ((IsHeldBadly script.n row call × Happened (IsGranted script.n row) earlier)
    ⊎ (IsFound script.n row call × Happened (IsLacking script.n row) earlier))

abbrev pub IsChanged : Script → Task → RowNo → List Call → Type 0
IsChanged script task row [] = ⊥
IsChanged script task row (call ∷ calls) = IsChange script task row calls call ⊎ IsChanged script task row calls

-- a request of this row that found no note
abbrev pub IsUnnoted : Call → Type 0
IsUnnoted call = (life : ℕ) × (call.answer.reply ≡ replies.NoNote life)

abbrev pub IsReleaseIn : RowNo → Call → Type 0
IsReleaseIn row call = (id : Number) × (n : Number) × (call.ask.what ≡ Release row id (Some n)) × IsUnnoted call

abbrev pub IsPutIn : RowNo → Call → Type 0
IsPutIn row call = (id : Number) × (n : Number) × (cell : Cell) × (call.ask.what ≡ Put row id n cell) × IsUnnoted call

-- the result came with the newest of these calls, or before the first
abbrev pub ComesWith : Script → HostNo → Ending → List Call → Type 0
ComesWith script host e [] = Contains (endings_at script [] host) e
ComesWith script host e (call ∷ earlier) =
    (new : List Ending)
    × (endings_at script (call ∷ earlier) host ≡ endings_at script earlier host ++ new)
    × Contains new e

-- told the newest of these calls, the attempt in hand draws a number:
-- it has made these requests, the newest first, and its host has seen this much
abbrev pub DrawsAfter : Script → HostNo → Number → List Call → List Call → Type 0
DrawsAfter script host seen [] made = ⊥
DrawsAfter script host seen (call ∷ earlier) made =
    let p : Progress = progress_at script host earlier in
    (made ≡ call ∷ p.calls) × (seen ≡ sees p.seen call.answer.reply)
    × (steps : Steps Finish) × (p.work ≡ Trying steps) × (draws (behind steps call.answer.reply) ≡ true)

-- the job's last attempt gets no id, so it makes no request, and its host has seen this much
abbrev pub HasNoId : Script → HostNo → Ending → Number → List Call → Type 0
HasNoId script host e seen now =
    (e.calls ≡ []) × ComesWith script host e now × (seen ≡ (progress_at script host now).seen)

-- the host draws for the job's last attempt: a number after some of its requests, or its id
abbrev pub IsDraw : Script → HostNo → Ending → Number → List Call → Type 0
IsDraw script host e seen now =
    Sometime (DrawsAfter script host seen now) e.calls ⊎ HasNoId script host e seen now

-- the cause stands in the calls of the job's last attempt, or in one of its draws
abbrev pub IsCauseIn : Script → List Call → HostNo → Ending → Cause → Type 0
IsCauseIn script history host e (causes.Busy holder) = Happened (Answers (replies.Busy holder)) e.calls
IsCauseIn script history host e (causes.Late above) = Happened (Answers (replies.Late above)) e.calls
IsCauseIn script history host e (causes.Young note) = Happened (Answers (replies.Young note)) e.calls
IsCauseIn script history host e (causes.Behind floor) = (script.mode ≡ Order) × IsReadOrWrite e.job.task × Happened (IsFloorFrom floor) e.calls
IsCauseIn script history host e (causes.Fault bay) = Happened (λ call. (call.bay ≡ bay) × Answers replies.Fault call) e.calls
IsCauseIn script history host e (causes.Broken first second) = HappenedAfter (IsLackingAt script e.job.task second) (IsMissingAt first) e.calls × (first ≢ second)
IsCauseIn script history host e (causes.Gone bay) = IsGone script host bay e.job.task e.calls
IsCauseIn script history host e (causes.Changed row) = IsChanged script e.job.task row e.calls
IsCauseIn script history host e (causes.Released row) = (script.mode ≡ Lock) × IsRead e.job.task × Happened (IsReleaseIn row) e.calls
IsCauseIn script history host e (causes.Seized row) = Happened (IsPutIn row) e.calls
IsCauseIn script history host e (causes.Spent seen) =
    IsNone (next_number host seen) × Sometime (IsDraw script host e seen) history
IsCauseIn script history host e causes.Quit = e.job.quit ≡ Some e.asked

-- a job is given up after all its tries, unless its host stops or numbers are spent
abbrev pub AreTries : ℕ → ℕ → Cause → Type 0
AreTries all tries causes.Quit = tries ≤ all
AreTries all tries (causes.Spent seen) = tries ≤ all
AreTries all tries _ = tries ≡ all

abbrev pub MeetsCause : Script → List Call → HostNo → Ending → JobEnd → Type 0
MeetsCause script history host e (ends.Part n made cause) = IsCauseIn script history host e cause
MeetsCause script history host e (ends.Gave tries cause) = IsCauseIn script history host e cause × (tries ≡ e.tries) × AreTries script.tries tries cause
MeetsCause script history host e _ = Unit {0}
