-- What attempts leave in the slots, recoveries among them.
use Rattle.std.specs.Prelude.{◌≡◌, ◌⊎◌, ℕ, ◌<◌, IsSome, true, false, List, [], ◌∷◌, Some}
use Rattle.raid_base.specs.declared.numbers.BayNo.{BayNo}
use Rattle.raid_base.specs.declared.numbers.HostNo.{HostNo}
use Rattle.raid_base.specs.declared.numbers.RowNo.{RowNo}
use Rattle.raid_base.specs.declared.numbers.Number.{Number}
use Rattle.raid_base.specs.declared.messages.Grant.{Grant}
use Rattle.raid_base.specs.declared.messages.How.TheVariants.{Seize}
use Rattle.raid_base.specs.declared.messages.Note.{Note}
use Rattle.raid_base.specs.declared.messages.Reply.TheVariants.{Fault}
use Rattle.raid_base.specs.declared.messages.Request.TheVariants.{Claim, Put}
use Rattle.raid_base.specs.declared.messages.Call.{Call}
use Rattle.raid_base.specs.declared.jobs.JobEnd.{JobEnd}
use Rattle.raid_base.specs.declared.jobs.JobEnd.TheVariants as ends
use Rattle.raid_base.specs.declared.jobs.Task.{Task}
use Rattle.raid_base.specs.Replies.{grant_of}
use Rattle.raid_base.specs.Steps.{Standing, settled, next_errand}
use Rattle.slot_rules.specs.declared.Reader.{Reader}
use Rattle.stripe_layout.specs.Placement.{parity_bay}
use Rattle.attempts.specs.Taking.{Finish}
use Rattle.attempts.specs.Phases.{IsIn}
use Rattle.script_text.specs.Script.{Script}
use Rattle.script_text.specs.Ranges.{IsScript}
use Rattle.histories.specs.Calls.{Happened, Answers}
use Rattle.histories.specs.Leftovers.{HasId, IsQuit, IsSeizure}
use Rattle.histories.specs.Hands.{Led}
use Rattle.histories.specs.Progress.{Ending, attempt}
use Rattle.histories.specs.History.{IsHistory, progress_at, endings_at}
use Rattle.histories.specs.RowStates.{slot_at}

-- an attempt of this task has made these calls, and was to ask a further request
abbrev pub WasUnderWay : Script → HostNo → Task → List Call → Type 0
WasUnderWay script host task calls =
    (id : Number) × (row : ℕ) × (now : Standing Finish)
    × Led host (settled host id (attempt script host id row task)) calls now × IsSome (next_errand now.steps)

-- a job ended as done in part, or where its host stopped while its last attempt was under way
abbrev pub MayLeave : Script → HostNo → Task → List Call → JobEnd → Type 0
MayLeave script host task calls (ends.Part n made cause) = Unit {0}
MayLeave script host task calls (ends.Gave tries cause) = IsQuit cause × WasUnderWay script host task calls
MayLeave script host task calls (ends.Recovered n closed lost) = (closed ≡ false) × WasUnderWay script host task calls
MayLeave script host task calls _ = ⊥

-- and that attempt has this id
abbrev pub HasLeft : Script → HostNo → Number → List Ending → Type 0
HasLeft script host id [] = ⊥
HasLeft script host id (e ∷ endings) =
    (HasId id e.calls × MayLeave script host e.job.task e.calls e.ended) ⊎ HasLeft script host id endings

-- a recovery ended as closed
abbrev pub IsClosed : JobEnd → Type 0
IsClosed (ends.Recovered n closed lost) = closed ≡ true
IsClosed _ = ⊥

-- and its last attempt has this id
abbrev pub HasClosed : Number → List Ending → Type 0
HasClosed id [] = ⊥
HasClosed id (e ∷ endings) = (HasId id e.calls × IsClosed e.ended) ⊎ HasClosed id endings

-- the claim of this slot by a recovery of this host with this id was granted, and seized a note
abbrev pub IsSeizedAt : HostNo → BayNo → RowNo → Number → Call → Type 0
IsSeizedAt host at row id call =
    (call.ask.host ≡ host) × (call.bay ≡ at) × (mask : _) × (want : _) × (call.ask.what ≡ Claim row id Seize mask want)
    × (grant : Grant) × (grant_of call.answer.reply ≡ Some grant) × IsSome grant.seized

-- the put of this slot by this host with this id answered Fault
abbrev pub IsFailedAt : HostNo → BayNo → RowNo → Number → Call → Type 0
IsFailedAt host at row id call =
    (call.ask.host ≡ host) × (call.bay ≡ at) × (n : _) × (cell : _) × (call.ask.what ≡ Put row id n cell) × Answers Fault call

-- what a recovery that was refused keeps: a slot whose note it has seized, and a parity whose put has failed
abbrev pub MayKeep : Script → List Call → HostNo → BayNo → RowNo → Number → Type 0
MayKeep script history host at row id =
    Happened (IsSeizedAt host at row id) history
    ⊎ ((at ≡ parity_bay script.n row) × Happened (IsSeizure host id) history × Happened (IsFailedAt host at row id) history)

-- the attempt of this host with this id is in hand, or was ended by its host's stop or as done in part,
-- or is a recovery that keeps this slot, and that has not ended as closed
abbrev pub MayHold : Script → List Call → HostNo → BayNo → RowNo → Number → Type 0
MayHold script history host at row id =
    HasId id (progress_at script host history).calls
    ⊎ (HasLeft script host id (endings_at script history host)
    ⊎ (MayKeep script history host at row id × ¬ (HasClosed id (endings_at script history host))))

-- readers are of the first two alone
abbrev pub MayRead : Script → List Call → HostNo → Number → Type 0
MayRead script history host id =
    HasId id (progress_at script host history).calls ⊎ HasLeft script host id (endings_at script history host)

-- Each note and each reader that stands in a slot is of such an attempt.
abbrev pub RefusedLeaveNothing : Type 0
RefusedLeaveNothing = (script : Script) (history : List Call) → IsScript script → IsHistory script history → (at : BayNo) (row : RowNo) →
    at.0 < script.n → row.0 < script.rows →
    ((note : Note) → (slot_at script history at row).note ≡ Some note → MayHold script history note.host at row note.id)
    × ((reader : Reader) → IsIn reader (slot_at script history at row).readers → MayRead script history reader.host reader.id)
