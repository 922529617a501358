-- What `Slots` keeps of a bay, and the bay that it makes up with the blocks of a store.
use Rattle.std.specs.Prelude.{◌≡◌, ℕ, ◌==◌, ◌||◌, not, Bool, List, [], ◌∷◌, length, replicate, slice_index_or, take, Option, Some, None, is_some}
use Rattle.raid_base.specs.declared.cells.Cell.{Cell}
use Rattle.raid_base.specs.declared.numbers.Number.{Number}
use Rattle.raid_base.specs.declared.numbers.RowNo.{RowNo}
use Rattle.raid_base.specs.declared.messages.Mode.{Mode}
use Rattle.raid_base.specs.declared.messages.Note.{Note}
use Rattle.raid_base.specs.Cells.{zeros}
use Rattle.raid_base.specs.Numbers.{number}
use Rattle.slot_rules.specs.declared.slot.BayState.{BayState}
use Rattle.slot_rules.specs.declared.slot.SlotState.{SlotState}
use Rattle.slot_rules.specs.declared.opened.Open.{Open}
use Rattle.slot_rules.specs.declared.Reader.{Reader}
use Rattle.slot_rules.specs.Slots.{Slot, Bay, first_bay, slot_of}

-- a slot, all but its block: it has a mark unless it is blank
pub record Kept : Type 0 where
  pub mark : Option ℕ
  pub read_no : Number
  pub write_no : Number
  pub last : Number
  pub note : Option Note
  pub readers : List Reader

-- a slot of this mark and these numbers, on which this is open
abbrev pub kept_slot : SlotState → Open → Kept
kept_slot slot opened =
    record { mark = slot.mark; read_no = slot.read_no; write_no = slot.write_no; last = slot.last; note = opened.note; readers = opened.readers }

-- nothing is open
abbrev pub closed : Open
closed = record { note = None; readers = [] }

-- whether there is a note or a reader
abbrev pub is_open : Open → Bool
is_open opened = is_some opened.note || not (length opened.readers == 0)

-- all of a bay but its blocks, and the rows that have a note or a reader, in some order
pub record Table : Type 0 where
  pub state : BayState
  pub slots : List Kept
  pub order : List RowNo

-- a slot at the start
abbrev pub first_kept : Kept
first_kept = record { mark = Some 0; read_no = number 0; write_no = number 0; last = number 0; note = None; readers = [] }

-- a blank slot, with both numbers this one
abbrev pub bare_kept : Number → Kept
bare_kept n = record { mark = None; read_no = n; write_no = n; last = number 0; note = None; readers = [] }

-- all of a row's slot but its block
abbrev pub kept_of : List Kept → RowNo → Kept
kept_of slots row = slice_index_or slots row.0 (bare_kept (number 0))

-- the cell of a slot with this mark and this block: none where the slot is blank
abbrev pub cell_of : Option ℕ → List ℕ → Option Cell
cell_of None block = None
cell_of (Some lost) block = Some (record { bytes = block; lost = lost })

-- the slot with its block
abbrev pub with_block : Kept → List ℕ → Slot
with_block slot block =
    record { cell = cell_of slot.mark block; read_no = slot.read_no; write_no = slot.write_no; last = slot.last; note = slot.note; readers = slot.readers }

-- each slot with the block of its row
abbrev pub slots_with : List Kept → List (List ℕ) → List Slot
slots_with [] blocks = []
slots_with (slot ∷ slots) [] = with_block slot [] ∷ slots_with slots []
slots_with (slot ∷ slots) (block ∷ blocks) = with_block slot block ∷ slots_with slots blocks

-- the bay of this state with these slots
abbrev pub bay_of : BayState → List Slot → Bay
bay_of state slots = record { mode = state.mode; patience = state.patience; empty = state.empty; high = state.high; life = state.life; slots = slots }

-- the bay that these make up with the blocks of a store
abbrev pub with_blocks : Table → List (List ℕ) → Bay
with_blocks table blocks = bay_of table.state (slots_with table.slots blocks)

-- the slot of a row, over these blocks
abbrev pub slot_over : Table → List (List ℕ) → RowNo → Slot
slot_over table blocks row = slot_of (with_blocks table blocks) row

-- over a store whose first blocks are zeros these slots make up the bay at the start
abbrev pub MakesFirstBay : Mode → ℕ → ℕ → Table → Type 0
MakesFirstBay mode rows patience table =
    (blocks : List (List ℕ)) → take rows blocks ≡ replicate rows zeros →
    with_blocks table blocks ≡ first_bay mode rows patience

-- the lost of a cell, 0 where there is none
abbrev pub lost_of : Option Cell → ℕ
lost_of None = 0
lost_of (Some cell) = cell.lost
