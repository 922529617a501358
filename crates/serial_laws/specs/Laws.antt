-- Laws of every play, on which the headline rests.
use Rattle.std.specs.Prelude.{◌≡◌, ℕ, ◌+◌, ◌<◌, ◌==◌, ◌&&◌, Bool, true, if◌then◌else◌, List, [], ◌∷◌, ◌++◌, take, drop, Option, Some, None}
use Rattle.raid_base.specs.declared.numbers.RowNo.{RowNo}
use Rattle.raid_base.specs.declared.cells.Cell.{Cell}
use Rattle.raid_base.specs.declared.messages.Note.{Note}
use Rattle.raid_base.specs.declared.cells.Content.{Content}
use Rattle.raid_base.specs.declared.cells.Content.TheVariants.{Bytes}
use Rattle.raid_base.specs.declared.messages.Call.{Call}
use Rattle.raid_base.specs.Cells.{zeros, content_of}
use Rattle.raid_base.specs.Steps.{Commit}
use Rattle.stripe_layout.specs.Placement.{parity_bay, bay_of}
use Rattle.degraded_plans.specs.Missing.{missing_of}
use Rattle.degraded_plans.specs.Rows.{RowCells, IsSound, all_present}
use Rattle.script_text.specs.Script.{Script}
use Rattle.script_text.specs.Ranges.{IsScript}
use Rattle.histories.specs.History.{IsHistory}
use Rattle.histories.specs.Turns.{all_ended}
use Rattle.histories.specs.RowStates.{slot_at, cell_at, row_cells}
use Rattle.row_laws.specs.Laws.{commits_of}
use Rattle.serial_laws.specs.Headline.{IsSerialPlay, KeepsParity}

-- The content of the last commit on a unit
abbrev pub is_of : RowNo → ℕ → Commit → Bool
is_of row unit commit = (commit.row.0 == row.0) && (commit.unit == unit)

abbrev pub last_of : RowNo → ℕ → List Commit → Content → Content
last_of row unit [] content = content
last_of row unit (commit ∷ commits) content = last_of row unit commits (if is_of row unit commit then commit.content else content)

abbrev pub content_at : Script → List Call → RowNo → ℕ → Content
content_at script [] row unit = Bytes zeros
content_at script (call ∷ earlier) row unit = last_of row unit (commits_of script earlier call) (content_at script earlier row unit)

-- Cells: each present unit has the content of the last commit on it.
abbrev pub IsCellOf : Content → Option Cell → Type 0
IsCellOf content None = Unit {0}
IsCellOf content (Some cell) = content_of cell ≡ content

abbrev pub CellsAreCommitted : Type 0
CellsAreCommitted = (script : Script) (history : List Call) → IsScript script → IsHistory script history → (row : RowNo) (unit : ℕ) →
    row.0 < script.rows → unit + 1 < script.n → IsCellOf (content_at script history row unit) (cell_at script history row (bay_of script.n row unit))

-- Parity: where the parity is there and has no note, the row is sound, a missing unit being what the others make of it.
abbrev pub IsSoundBut : Cell → ℕ → Option (List Cell) → Option (List Cell) → Type 0
IsSoundBut parity unit None later = ⊥
IsSoundBut parity unit (Some before) None = ⊥
IsSoundBut parity unit (Some before) (Some later) = IsSound parity (before ++ missing_of parity (before ++ later) unit ∷ later)

abbrev pub IsSoundOrFilled : Cell → List (Option Cell) → Option (List Cell) → Type 0
IsSoundOrFilled parity cells (Some all) = IsSound parity all
IsSoundOrFilled parity cells None = (unit : ℕ) × IsSoundBut parity unit (all_present (take unit cells)) (all_present (drop (unit + 1) cells))

abbrev pub IsParityGood : RowCells → Option Cell → Option Note → Type 0
IsParityGood row None _ = Unit {0}
IsParityGood row (Some parity) (Some note) = Unit {0}
IsParityGood row (Some parity) None = IsSoundOrFilled parity row.units (all_present row.units)

abbrev pub ParityIsCovered : Type 0
ParityIsCovered = (script : Script) (history : List Call) → IsScript script → IsHistory script history → (row : RowNo) → row.0 < script.rows →
    IsParityGood (row_cells script history row) (cell_at script history row (parity_bay script.n row)) (slot_at script history (parity_bay script.n row) row).note

-- The headline's parts, for every history of a script
abbrev pub PlaysAreSerial : Type 0
PlaysAreSerial = (script : Script) (history : List Call) → IsScript script → IsHistory script history → all_ended script history ≡ true → IsSerialPlay script history

abbrev pub ParityIsKept : Type 0
ParityIsKept = (script : Script) (history : List Call) → IsScript script → IsHistory script history → KeepsParity script history
