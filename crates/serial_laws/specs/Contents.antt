-- The cells of a row: each unit has its content, and the parity is that of the contents that stood when it was put last.
use Rattle.std.specs.Prelude.{◌≡◌, ◌⊎◌, ℕ, ◌+◌, ◌^◌, ◌<◌, ◌&&◌, Bool, true, if◌then◌else◌, List, [], ◌∷◌, map, Some, None, is_some}
use Rattle.raid_base.specs.declared.numbers.RowNo.{RowNo}
use Rattle.raid_base.specs.declared.cells.Cell.{Cell}
use Rattle.raid_base.specs.declared.cells.Content.{Content}
use Rattle.raid_base.specs.declared.cells.Content.TheVariants.{Bytes, Lost}
use Rattle.raid_base.specs.declared.cells.Shown.TheVariants.{Seen}
use Rattle.raid_base.specs.declared.messages.Note.{Note}
use Rattle.raid_base.specs.declared.messages.Call.{Call}
use Rattle.raid_base.specs.Cells.{zeros, plain_cell, has_unit}
use Rattle.raid_xor.specs.Laws.{AreBlocks}
use Rattle.stripe_layout.specs.Placement.{parity_bay, bay_of, units}
use Rattle.raid_xor.specs.Parities.{parity_of}
use Rattle.attempts.specs.Sound.{IsThis}
use Rattle.script_text.specs.Script.{Script}
use Rattle.script_text.specs.Ranges.{IsScript}
use Rattle.histories.specs.Calls.{Happened, write_of, is_at, IsPut, IsDone}
use Rattle.histories.specs.History.{IsHistory}
use Rattle.histories.specs.RowStates.{slot_at, cell_at, shown_at}
use Rattle.serial_laws.specs.Laws.{content_at}

-- the call puts the parity of the row, and is done
abbrev pub is_parity_put : ℕ → RowNo → Call → Bool
is_parity_put n row call = is_at (parity_bay n row) row call && is_some (write_of call.ask.what call.answer.reply)

-- the content of a unit right after the parity of its row was put last: the one that the parity counts
abbrev pub base_at : Script → List Call → RowNo → ℕ → Content
base_at script [] row unit = Bytes zeros
base_at script (call ∷ earlier) row unit =
    if is_parity_put script.n row call then content_at script (call ∷ earlier) row unit else base_at script earlier row unit

-- the cell of a unit that has this content
abbrev pub cell_with : ℕ → Content → Cell
cell_with unit (Bytes bytes) = plain_cell bytes
cell_with unit Lost = record { bytes = zeros; lost = 2 ^ unit }

-- the cells of a row's units
abbrev pub cells_with : ℕ → (ℕ → Content) → List Cell
cells_with n content = map (λ unit. cell_with unit (content unit)) (units n)

-- Where the content of a unit is not the one that its parity counts, the parity has no cell, or its note came from a write
-- that has put the unit and has it among its units.
pub record IsPending (script : Script) (history : List Call) (row : RowNo) (unit : ℕ) (note : Note) : Type 0 where
  pub noted : (slot_at script history (parity_bay script.n row) row).note ≡ Some note
  pub masked : has_unit note.mask unit ≡ true
  pub put : Happened (λ call. IsPut (bay_of script.n row unit) row note.origin call × IsDone call) history

abbrev pub ContentsAreCovered : Type 0
ContentsAreCovered = (script : Script) (history : List Call) → IsScript script → IsHistory script history → (row : RowNo) (unit : ℕ) →
    row.0 < script.rows → unit + 1 < script.n →
    (content_at script history row unit ≡ base_at script history row unit)
    ⊎ ((cell_at script history row (parity_bay script.n row) ≡ None) ⊎ ((note : Note) × IsPending script history row unit note))

-- Each slot that has a cell has the one that is due: a unit that of its content, and the parity that of the contents that it counts.
pub record HoldsContents (script : Script) (history : List Call) (row : RowNo) : Type 0 where
  pub units : (unit : ℕ) → unit + 1 < script.n →
      IsThis (cell_with unit (content_at script history row unit)) (cell_at script history row (bay_of script.n row unit))
  pub parity : IsThis (parity_of (cells_with script.n (base_at script history row))) (cell_at script history row (parity_bay script.n row))
  pub blocks : AreBlocks (cells_with script.n (content_at script history row))
  pub base_blocks : AreBlocks (cells_with script.n (base_at script history row))

abbrev pub RowsHoldContents : Type 0
RowsHoldContents = (script : Script) (history : List Call) → IsScript script → IsHistory script history → (row : RowNo) → row.0 < script.rows →
    HoldsContents script history row

-- What is shown of a unit is its content.
abbrev pub IsShownContent : Script → List Call → RowNo → ℕ → Type 0
IsShownContent script history row unit = (content : Content) → shown_at script history row unit ≡ Seen content → content ≡ content_at script history row unit

-- so it is with all units of the array
abbrev pub AreContentsShown : Script → List Call → Type 0
AreContentsShown script history = (row : RowNo) (unit : ℕ) → row.0 < script.rows → IsShownContent script history row unit

abbrev pub ContentsAreShown : Type 0
ContentsAreShown = (script : Script) (history : List Call) → IsScript script → IsHistory script history → AreContentsShown script history
