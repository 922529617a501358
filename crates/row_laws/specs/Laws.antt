-- Laws of rows: commits, covered puts, the order of numbers and lost blocks.
use Rattle.std.specs.Prelude.{◌≡◌, ◌⊎◌, ℕ, ◌+◌, ◌<◌, Bool, true, if◌then◌else◌, List, [], ◌∷◌, ◌++◌, Option, Some, None, IsNone}
use Rattle.std.specs.List.{AllByRecursion}
use Rattle.raid_base.specs.declared.numbers.BayNo.{BayNo}
use Rattle.raid_base.specs.declared.numbers.RowNo.{RowNo}
use Rattle.raid_base.specs.declared.numbers.Number.{Number}
use Rattle.raid_base.specs.declared.messages.Note.{Note}
use Rattle.raid_base.specs.declared.messages.How.TheVariants.{Plain}
use Rattle.raid_base.specs.declared.messages.Request.TheVariants.{Claim}
use Rattle.raid_base.specs.declared.messages.Reply.{Reply}
use Rattle.raid_base.specs.declared.messages.Reply.TheVariants.{Granted, Late, Missing}
use Rattle.raid_base.specs.declared.messages.Call.{Call}
use Rattle.raid_base.specs.Cells.{has_unit}
use Rattle.raid_base.specs.Replies.{is_done}
use Rattle.raid_base.specs.Steps.{Commit, commits_next}
use Rattle.stripe_layout.specs.Placement.{parity_bay, bay_of}
use Rattle.script_text.specs.Script.{Script}
use Rattle.script_text.specs.Ranges.{IsScript}
use Rattle.histories.specs.Progress.{Work, Trying}
use Rattle.histories.specs.History.{IsHistory, progress_at}
use Rattle.histories.specs.RowStates.{slot_at, cell_at}
use Rattle.histories.specs.Calls.{Happened, row_of, write_of, read_of, is_at, IsPut, IsDone}
use Rattle.histories.specs.Results.{NamesLostRightly}
use Rattle.histories.specs.Accesses.{writes, reads, AllBelow}

-- Number order: a write's number is above those of all earlier reads and writes of its slot, and a read's above those of all earlier writes.
abbrev pub NumbersRise : Type 0
NumbersRise = (script : Script) (later earlier : List Call) (call : Call) (row : RowNo) (n : Number) →
    IsScript script → IsHistory script (later ++ call ∷ earlier) → row_of call.ask.what ≡ Some row →
    (write_of call.ask.what call.answer.reply ≡ Some n → AllBelow n (writes call.bay row earlier) × AllBelow n (reads script call.bay row earlier))
    × (read_of script.mode call.ask.what call.answer.reply ≡ Some n → AllBelow n (writes call.bay row earlier))

-- a number of its slot that a reply shows: one of a grant's two, one that is above, or a floor
abbrev pub ShowsOfSlot : Reply → Number → Type 0
ShowsOfSlot (Granted cell read_no write_no last life seized) m = (m ≡ read_no) ⊎ (m ≡ write_no)
ShowsOfSlot (Late above) m = m ≡ above
ShowsOfSlot (Missing floor) m = m ≡ floor
ShowsOfSlot _ m = ⊥

-- what a call of the slot shows is below n
abbrev pub ShowsBelow : BayNo → RowNo → Number → Call → Type 0
ShowsBelow bay row n call = is_at bay row call ≡ true → (m : Number) → ShowsOfSlot call.answer.reply m → m.0 < n.0

-- The number of a done put is above every number that its slot has ever shown, through all losses of its device.
abbrev pub PutsAreAboveWhatWasShown : Type 0
PutsAreAboveWhatWasShown = (script : Script) (earlier : List Call) (call : Call) (row : RowNo) (n : Number) →
    IsScript script → IsHistory script (call ∷ earlier) →
    row_of call.ask.what ≡ Some row → write_of call.ask.what call.answer.reply ≡ Some n →
    AllByRecursion (ShowsBelow call.bay row n) earlier

-- Covered puts: where a write's data put was done, and no parity put of its row since, the parity is missing, or its note came
-- from that write and has the unit.
abbrev pub IsOrigin : Number → ℕ → Option Note → Type 0
IsOrigin id unit None = ⊥
IsOrigin id unit (Some note) = (note.origin ≡ id) × (has_unit note.mask unit ≡ true)

-- a write claims the parity of the row with this id, whatever it is answered
abbrev pub IsParityClaim : ℕ → RowNo → Number → Call → Type 0
IsParityClaim n row id call = (call.bay ≡ parity_bay n row) × (mask : ℕ) × (want : Bool) × (call.ask.what ≡ Claim row id Plain mask want)

abbrev pub IsWrite : ℕ → RowNo → Number → List Call → Type 0
IsWrite n row id calls = Happened (IsParityClaim n row id) calls

abbrev pub IsPutSince : ℕ → RowNo → List Call → Type 0
IsPutSince n row later = Happened (λ call. (id : Number) × IsPut (parity_bay n row) row id call × IsDone call) later

abbrev pub PutsAreCovered : Type 0
PutsAreCovered = (script : Script) (later earlier : List Call) (call : Call) (row : RowNo) (unit : ℕ) (id : Number) →
    IsScript script → IsHistory script (later ++ call ∷ earlier) → unit + 1 < script.n → IsWrite script.n row id earlier →
    IsPut (bay_of script.n row unit) row id call → IsDone call →
    ¬ (IsPutSince script.n row later) →
    IsNone (cell_at script (later ++ call ∷ earlier) row (parity_bay script.n row))
    ⊎ IsOrigin id unit (slot_at script (later ++ call ∷ earlier) (parity_bay script.n row) row).note

-- Commits: what a Done to the next request of a host commits
abbrev pub commits_in : Work → List Commit
commits_in (Trying steps) = commits_next steps
commits_in _ = []

abbrev pub commits_of : Script → List Call → Call → List Commit
commits_of script earlier call = if is_done call.answer.reply then commits_in (progress_at script call.ask.host earlier).work else []

abbrev pub LostBlocksAreTorn : Type 0
LostBlocksAreTorn = (script : Script) (history : List Call) → IsScript script → IsHistory script history → NamesLostRightly script history
