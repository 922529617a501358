-- The state of one bay.
use Rattle.std.specs.Prelude.{ℕ, Bool, false, List, [], slice_index_or, replicate, Option, Some, None}
use Rattle.raid_base.specs.declared.numbers.RowNo.{RowNo}
use Rattle.raid_base.specs.declared.numbers.Number.{Number}
use Rattle.raid_base.specs.declared.messages.Mode.{Mode}
use Rattle.raid_base.specs.declared.cells.Cell.{Cell}
use Rattle.raid_base.specs.declared.messages.Note.{Note}
use Rattle.raid_base.specs.Numbers.{number}
use Rattle.raid_base.specs.Cells.{zero_cell}
use Rattle.slot_rules.specs.declared.Reader.{Reader}

-- one slot: it has a cell unless it is missing
pub record Slot : Type 0 where
  pub cell : Option Cell
  pub read_no : Number
  pub write_no : Number
  pub last : Number
  pub note : Option Note
  pub readers : List Reader

-- one bay: its slots, whether its device is lost, the greatest number of any slot ever, and how often it lost its device
pub record Bay : Type 0 where
  pub mode : Mode
  pub patience : ℕ
  pub empty : Bool
  pub high : Number
  pub life : ℕ
  pub slots : List Slot

-- a slot at the start
abbrev pub first_slot : Slot
first_slot = record { cell = Some zero_cell; read_no = number 0; write_no = number 0; last = number 0; note = None; readers = [] }

-- a slot without a cell, with both numbers this one
abbrev pub bare_slot : Number → Slot
bare_slot n = record { cell = None; read_no = n; write_no = n; last = number 0; note = None; readers = [] }

-- a bay at the start
abbrev pub first_bay : Mode → ℕ → ℕ → Bay
first_bay mode rows patience = record { mode = mode; patience = patience; empty = false; high = number 0; life = 0; slots = replicate rows first_slot }

-- the slot of a row, or a blank one where there is no such row
abbrev pub slot_of : Bay → RowNo → Slot
slot_of bay row = slice_index_or bay.slots row.0 (bare_slot (number 0))

-- a reader shown as a note
abbrev pub reader_note : Reader → Note
reader_note reader = record { host = reader.host; id = reader.id; origin = reader.id; mask = 0; moment = reader.moment }
