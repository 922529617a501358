-- What attempts in hand were shown of the rows that they hold, as cells of a table. With the cells of all rows this is kept by
-- each call of a history.
use Rattle.std.proofs.Common.{◌≡◌, ◌⊎◌, ℕ, ◌+◌, ◌<◌, ◌==◌, Bool, false, if◌then◌else◌, List, [], ◌∷◌, Option, Some, None}
use Rattle.std.specs.List.{AllByRecursion}
use Rattle.raid_base.specs.declared.numbers.HostNo.{HostNo}
use Rattle.raid_base.specs.declared.numbers.RowNo.{RowNo}
use Rattle.raid_base.specs.declared.numbers.Number.{Number}
use Rattle.raid_base.specs.declared.cells.Cell.{Cell}
use Rattle.raid_base.specs.declared.cells.Content.{Content}
use Rattle.raid_base.specs.declared.cells.Content.TheVariants.{Bytes}
use Rattle.raid_base.specs.declared.messages.Request.TheVariants.{Put}
use Rattle.raid_base.specs.declared.messages.Reply.TheVariants.{NoNote}
use Rattle.raid_base.specs.declared.messages.Note.{Note}
use Rattle.raid_base.specs.declared.messages.Grant.{Grant}
use Rattle.raid_base.specs.declared.messages.Call.{Call}
use Rattle.raid_base.specs.declared.jobs.Task.{Task}
use Rattle.raid_base.specs.declared.jobs.Task.TheVariants as tasks
use Rattle.raid_base.specs.Cells.{zeros, content_of}
use Rattle.raid_base.specs.Replies.{grant_of}
use Rattle.raid_base.specs.Steps.{Steps}
use Rattle.stripe_layout.specs.Placement.{parity_bay, bay_of}
use Rattle.raid_xor.specs.Parities.{parity_of}
use Rattle.attempts.specs.Taking.{Finish}
use Rattle.attempts.specs.Phases.{IsIn}
use Rattle.attempts.specs.Sound.{Cells, ReplyShows}
use Rattle.script_text.specs.Script.{Script}
use Rattle.histories.specs.Calls.{Happened, row_of, IsClaim, IsDone}
use Rattle.histories.specs.Torn.{IsMissing}
use Rattle.histories.specs.Hands.{past_of}
use Rattle.histories.specs.History.{bay_at}
use Rattle.histories.specs.RowStates.{slot_at, cell_at}
use Rattle.serial_laws.specs.Laws.{content_at}
use Rattle.row_laws.specs.Hands.{HasHand, calls_at, IsRecoveryOf}
use Rattle.row_laws.specs.Holding.{HasNote, GivesNothing, CameFrom}
use Rattle.serial_laws.specs.Contents.{base_at, cells_with, HoldsContents}

-- a table of cells: the units have these contents, and each parity counts those
abbrev pub table : ℕ → (RowNo → ℕ → Content) → (RowNo → ℕ → Content) → Cells
table n counted contents = record { parity = λ row. parity_of (cells_with n (counted row)); units = λ row. cells_with n (contents row) }

-- what a call was shown is of the table
abbrev pub IsShownOf : ℕ → Cells → Call → Type 0
IsShownOf n cells call = ReplyShows n cells call.bay call.ask.what call.answer.reply

-- the same for each of these calls that is of the row
abbrev pub AreShownIn : ℕ → RowNo → Cells → List Call → Type 0
AreShownIn n row cells calls = AllByRecursion (λ (call : Call). row_of call.ask.what ≡ Some row → IsShownOf n cells call) calls

-- Tasks
abbrev pub IsRebuild : Task → Type 0
IsRebuild (tasks.Rebuild bay) = Unit {0}
IsRebuild _ = ⊥

abbrev pub IsWriteTask : Task → Type 0
IsWriteTask (tasks.Write object first from count) = Unit {0}
IsWriteTask _ = ⊥

-- the contents of a row when an attempt owned it last: those that the parity counts while it has a note that came from this id
abbrev pub is_from : Number → Option Note → Bool
is_from id None = false
is_from id (Some note) = note.origin.0 == id.0

abbrev pub owned_at : Script → Number → List Call → RowNo → ℕ → Content
owned_at script id [] row unit = Bytes zeros
owned_at script id (call ∷ earlier) row unit =
    if is_from id (slot_at script (call ∷ earlier) (parity_bay script.n row) row).note
    then base_at script (call ∷ earlier) row unit
    else owned_at script id earlier row unit

-- Rebuilds. While the parity has a cell and a note that came from it, or has no cell and the rebuild's own note, and it gives nothing back
abbrev pub MendKeeps : (script : Script) (history : List Call) (host : HostNo) (steps : Steps Finish) → HasHand script history host steps → RowNo → Type 0
MendKeeps script history host steps h row =
    CameFrom h.hand.id (slot_at script history (parity_bay script.n row) row).note
    × ((cell_at script history row (parity_bay script.n row) ≡ None) →
    HasNote h.hand.id (slot_at script history (parity_bay script.n row) row).note × GivesNothing steps (calls_at script history host))

-- Recoveries. What one was shown while it holds the parity, and units that were missing are missing
pub record IsRecoveryShown (script : Script) (history : List Call) (host : HostNo) (row : RowNo) : Type 0 where
  pub shown : AreShownIn script.n row (table script.n (base_at script history) (content_at script history)) (calls_at script history host)
  pub missing : (unit : ℕ) → unit + 1 < script.n → Happened (λ call. IsClaim (bay_of script.n row unit) row call × IsMissing call) (calls_at script history host) →
      cell_at script history row (bay_of script.n row unit) ≡ None

-- Writes. While the parity has a note that came from it: a unit that it has put has the content of that put; one that was missing
-- is missing; and so is one whose device was lost since it was granted
abbrev pub IsUnitPut : ℕ → RowNo → ℕ → Cell → Call → Type 0
IsUnitPut n row unit cell call = (call.bay ≡ bay_of n row unit) × (id : Number) × (k : Number) × (call.ask.what ≡ Put row id k cell)

abbrev pub IsUnitGrant : ℕ → RowNo → ℕ → Grant → Call → Type 0
IsUnitGrant n row unit grant call = IsClaim (bay_of n row unit) row call × (grant_of call.answer.reply ≡ Some grant)

pub record IsWriteHeld (script : Script) (history : List Call) (row : RowNo) (unit : ℕ) (calls : List Call) : Type 0 where
  pub put : (cell : Cell) → Happened (λ call. IsUnitPut script.n row unit cell call × IsDone call) calls → content_at script history row unit ≡ content_of cell
  pub missing : Happened (λ call. IsClaim (bay_of script.n row unit) row call × IsMissing call) calls → cell_at script history row (bay_of script.n row unit) ≡ None
  pub granted : (grant : Grant) → Happened (IsUnitGrant script.n row unit grant) calls →
      (grant.life ≡ (bay_at script (bay_of script.n row unit) history).life) ⊎ (cell_at script history row (bay_of script.n row unit) ≡ None)
  pub lost : (grant : Grant) (life : ℕ) (cell : Cell) → Happened (IsUnitGrant script.n row unit grant) calls →
      Happened (λ call. IsUnitPut script.n row unit cell call × (call.answer.reply ≡ NoNote life)) calls → (grant.life ≡ life → ⊥) →
      cell_at script history row (bay_of script.n row unit) ≡ None

pub record IsWriteShown (script : Script) (history : List Call) (host : HostNo) (steps : Steps Finish) (h : HasHand script history host steps) (row : RowNo) : Type 0 where
  pub shown : CameFrom h.hand.id (slot_at script history (parity_bay script.n row) row).note ⊎ IsIn row (past_of (calls_at script history host)).confirmed →
      AreShownIn script.n row (table script.n (owned_at script h.hand.id history) (owned_at script h.hand.id history)) (calls_at script history host)
  pub held : CameFrom h.hand.id (slot_at script history (parity_bay script.n row) row).note → (unit : ℕ) → unit + 1 < script.n →
      IsWriteHeld script history row unit (calls_at script history host)

-- all that hands were shown
pub record AreHandsShown (script : Script) (history : List Call) : Type 0 where
  pub mends : (host : HostNo) (steps : Steps Finish) (h : HasHand script history host steps) (row : RowNo) → row.0 < script.rows → IsRebuild h.hand.task →
      MendKeeps script history host steps h row →
      AreShownIn script.n row (table script.n (content_at script history) (content_at script history)) (calls_at script history host)
  pub recoveries : (host : HostNo) (steps : Steps Finish) (h : HasHand script history host steps) (row : RowNo) → row.0 < script.rows → IsRecoveryOf row h.hand.task →
      HasNote h.hand.id (slot_at script history (parity_bay script.n row) row).note → IsRecoveryShown script history host row
  pub writes : (host : HostNo) (steps : Steps Finish) (h : HasHand script history host steps) (row : RowNo) → row.0 < script.rows → IsWriteTask h.hand.task →
      IsWriteShown script history host steps h row

-- the cells of all rows
abbrev pub AllHold : Script → List Call → Type 0
AllHold script history = (row : RowNo) → row.0 < script.rows → HoldsContents script history row
