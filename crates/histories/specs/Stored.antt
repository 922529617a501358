-- What the stores of the bays hold after a history.
use Rattle.std.specs.Prelude.{◌≡◌, ℕ, ◌<◌, List, Option, Some, None, slice_get}
use Rattle.raid_base.specs.declared.numbers.BayNo.{BayNo}
use Rattle.raid_base.specs.declared.cells.Cell.{Cell}
use Rattle.raid_base.specs.declared.messages.Call.{Call}
use Rattle.stripe_layout.specs.Placement.{bay}
use Rattle.script_text.specs.Script.{Script}
use Rattle.histories.specs.RowStates.{cell_at}

-- a store holds the bytes of the present slots of its bay
abbrev pub HoldsCell : List (List ℕ) → ℕ → Option Cell → Type 0
HoldsCell store row None = Unit {0}
HoldsCell store row (Some cell) = slice_get store row ≡ Some cell.bytes

abbrev pub HoldsBay : Script → List Call → BayNo → List (List ℕ) → Type 0
HoldsBay script history at store = (row : ℕ) → row < script.rows → HoldsCell store row (cell_at script history (record { 0 = row }) at)

abbrev pub StoresHold : Script → List Call → List (List (List ℕ)) → Type 0
StoresHold script history stores =
    (k : ℕ) (store : List (List ℕ)) → k < script.n → slice_get stores k ≡ Some store → HoldsBay script history (bay k) store
