-- The cells and the open rows of an array: those that its bays have now, and those after a history.
use Rattle.std.specs.Prelude.{◌≡◌, ℕ, ◌<◌, ◌≤◌, ◌||◌, Bool, false, List, length, slice_index_or, map, Option, is_some}
use Rattle.std.specs.List.{list_any, flat_map, range_with_len}
use Rattle.raid_base.specs.declared.numbers.RowNo.{RowNo}
use Rattle.raid_base.specs.declared.cells.Cell.{Cell}
use Rattle.raid_base.specs.declared.messages.Call.{Call}
use Rattle.raid_base.specs.Counts.{Rises}
use Rattle.stripe_layout.specs.Placement.{bay}
use Rattle.slot_rules.specs.Slots.{slot_of}
use Rattle.slot_rules.specs.Tables.{with_blocks}
use Rattle.block_store.specs.declared.store.Store.{Ghosts}
use Rattle.bay_device.specs.declared.bay.Bay.{Bay}
use Rattle.bay_device.specs.Handling.{cell_of_row}
use Rattle.script_text.specs.Script.{Script}
use Rattle.schedule_play.specs.World.{EachAt, BayShows, AllTell}
use Rattle.histories.specs.RowStates.{cell_at, is_open}

abbrev pub row_no : ℕ → RowNo
row_no k = record { 0 = k }

-- each bay has so many rows
abbrev pub HaveRows : {D : Type 0} {g : Ghosts D} → ℕ → List (Bay D g) → Type 0
HaveRows {D} {g} rows bays = EachAt (λ at (now : Bay D g). rows ≤ length now.slots.slots) bays

-- the cell of a row on a bay, over the content of its store
abbrev pub cell_now : {D : Type 0} {g : Ghosts D} → RowNo → Bay D g → Option Cell
cell_now {D} {g} row now = cell_of_row (with_blocks now.slots (g.content now.store)) row

-- whether the slot of a row on a bay has an open note
abbrev pub has_note : {D : Type 0} {g : Ghosts D} → RowNo → Bay D g → Bool
has_note {D} {g} row now = is_some (slot_of (with_blocks now.slots (g.content now.store)) row).note

-- whether some slot of the row has one
abbrev pub is_open_now : {D : Type 0} {g : Ghosts D} → List (Bay D g) → RowNo → Bool
is_open_now bays row = list_any (has_note row) bays

-- the cells of a row, bay by bay
abbrev pub row_now : {D : Type 0} {g : Ghosts D} → List (Bay D g) → RowNo → List (Option Cell)
row_now bays row = map (cell_now row) bays

-- the cells of the first rows, row by row
abbrev pub cells_now : {D : Type 0} {g : Ghosts D} → ℕ → List (Bay D g) → List (Option Cell)
cells_now rows bays = flat_map (λ k. row_now bays (row_no k)) (range_with_len 0 rows)

-- which of them are open
abbrev pub opened_now : {D : Type 0} {g : Ghosts D} → ℕ → List (Bay D g) → List Bool
opened_now rows bays = map (λ k. is_open_now bays (row_no k)) (range_with_len 0 rows)

-- the same marks, and those at the places that pass the test besides
abbrev pub IsMarked : List Bool → List Bool → (ℕ → Bool) → Type 0
IsMarked old new test = (j : ℕ) → j < length old → slice_index_or new j false ≡ (slice_index_or old j false || test j)

-- the cells of a row after a history, bay by bay
abbrev pub row_after : Script → List Call → RowNo → List (Option Cell)
row_after script history row = map (λ at. cell_at script history row (bay at)) (range_with_len 0 script.n)

-- the cells of all rows after a history, row by row
abbrev pub cells_after : Script → List Call → List (Option Cell)
cells_after script history = flat_map (λ k. row_after script history (row_no k)) (range_with_len 0 script.rows)

-- which rows are open after a history
abbrev pub opened_after : Script → List Call → List Bool
opened_after script history = map (λ k. is_open script history (row_no k)) (range_with_len 0 script.rows)

-- a bay that was only looked at: all is as before but the count of its store's faults, which doesn't fall
pub record IsLookedAt {D : Type 0} {g : Ghosts D} (old new : Bay D g) : Type 0 where
  pub slots : new.slots ≡ old.slots
  pub clock : new.clock ≡ old.clock
  pub journal : new.journal ≡ old.journal
  pub cap : new.cap ≡ old.cap
  pub content : g.content new.store ≡ g.content old.store
  pub tells : g.tells new.store ≡ g.tells old.store
  pub size : g.size new.store ≡ g.size old.store
  pub faults : g.faults old.store ≤ g.faults new.store

-- bays that were only looked at
pub record AreLookedAt {D : Type 0} {g : Ghosts D} (old new : List (Bay D g)) : Type 0 where
  pub count : length new ≡ length old
  pub each : (k : ℕ) (d : Bay D g) → k < length old → IsLookedAt (slice_index_or old k d) (slice_index_or new k d)

-- the store of the bay at this place has failed since
pub record HasFailed {D : Type 0} {g : Ghosts D} (at : ℕ) (old new : List (Bay D g)) : Type 0 where
  pub inside : at < length old
  pub risen : (d : Bay D g) → Rises (g.faults (slice_index_or old at d).store) (g.faults (slice_index_or new at d).store)

-- the bays of a script show this history, over stores that tell their content
pub record ShowRows {D : Type 0} {g : Ghosts D} (script : Script) (history : List Call) (bays : List (Bay D g)) : Type 0 where
  pub wide : 3 ≤ script.n
  pub count : length bays ≡ script.n
  pub shows : EachAt (BayShows script history) bays
  pub told : AllTell bays
