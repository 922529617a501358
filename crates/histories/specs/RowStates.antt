-- A row of the array after a history.
use Rattle.std.specs.Prelude.{◌≡◌, ℕ, ◌<◌, Bool, false, List, map, Option, is_some}
use Rattle.std.specs.List.{list_any}
use Rattle.raid_base.specs.declared.numbers.BayNo.{BayNo}
use Rattle.raid_base.specs.declared.numbers.RowNo.{RowNo}
use Rattle.raid_base.specs.declared.cells.Cell.{Cell}
use Rattle.raid_base.specs.declared.messages.Call.{Call}
use Rattle.raid_base.specs.declared.cells.Shown.{Shown}
use Rattle.stripe_layout.specs.Placement.{parity_bay, bay_of, units, row_bays}
use Rattle.degraded_plans.specs.Rows.{RowCells, IsSoundIfWhole, shown}
use Rattle.slot_rules.specs.Slots.{Slot, slot_of}
use Rattle.script_text.specs.Script.{Script}
use Rattle.histories.specs.History.{bay_at}

abbrev pub slot_at : Script → List Call → BayNo → RowNo → Slot
slot_at script history bay row = slot_of (bay_at script bay history) row

abbrev pub cell_at : Script → List Call → RowNo → BayNo → Option Cell
cell_at script history row bay = (slot_at script history bay row).cell

abbrev pub row_cells : Script → List Call → RowNo → RowCells
row_cells script history row = record {
  parity = cell_at script history row (parity_bay script.n row);
  units = map (λ unit. cell_at script history row (bay_of script.n row unit)) (units script.n);
}

-- a row is open while some slot of it has a note
abbrev pub is_open : Script → List Call → RowNo → Bool
is_open script history row = list_any (λ bay. is_some (slot_at script history bay row).note) (row_bays script.n row)

-- what is shown of a unit
abbrev pub shown_at : Script → List Call → RowNo → ℕ → Shown
shown_at script history row unit = shown (is_open script history row) (row_cells script history row) unit

-- each closed row without a missing slot is sound
abbrev pub AreRowsSound : Script → List Call → Type 0
AreRowsSound script history =
    (row : RowNo) → row.0 < script.rows → is_open script history row ≡ false → IsSoundIfWhole (row_cells script history row)
