-- The rows of a bay with what is open on each: the rows on which something is open stand first.
use Rattle.std.specs.Prelude.{◌≡◌, ℕ, ◌<◌, ◌≤◌, ◌==◌, nat_eq, nat_lt, Bool, true, false, if◌then◌else◌, List, [], ◌∷◌, length, map, slice_index_or, slice_get, slice_set, take, Contains, All, Option, Some, None, is_some}
use Rattle.std.specs.List.{IsDistinct, range_with_len}
use Rattle.std.specs.Map.{lookup, keys_of}
use Rattle.std.specs.Option.{unwrap_or}
use Rattle.raid_base.specs.declared.numbers.Number.{Number}
use Rattle.raid_base.specs.declared.numbers.RowNo.{RowNo}
use Rattle.raid_base.specs.Numbers.{number}
use Rattle.slot_rules.specs.declared.opened.Open.{Open}
use Rattle.slot_rules.specs.declared.slot.BayState.{BayState}
use Rattle.slot_rules.specs.declared.slot.SlotState.{SlotState}
use Rattle.slot_rules.specs.declared.slots.RowState.{RowState}
use Rattle.slot_rules.specs.Tables.{Kept, Table, kept_slot, kept_of, closed, is_open}

-- the order has each of so many rows that pass the test, for exactly one k, and no other row
pub record Lists (order : List RowNo) (rows : ℕ) (test : RowNo → Bool) : Type 0 where
  pub once : (j k : ℕ) (row : RowNo) → slice_get order j ≡ Some row → slice_get order k ≡ Some row → j ≡ k
  pub only : (k : ℕ) (row : RowNo) → slice_get order k ≡ Some row → (row.0 < rows) × (test row ≡ true)
  pub all : (row : RowNo) → row.0 < rows → test row ≡ true → Contains order row

-- what is open on a slot
abbrev pub open_part : Kept → Open
open_part slot = record { note = slot.note; readers = slot.readers }

-- whether a row's slot has a note or a reader
abbrev pub is_open_row : List Kept → RowNo → Bool
is_open_row slots row = is_open (open_part (kept_of slots row))

-- the order has each row with a note or a reader for exactly one k, and no other row
abbrev pub ListsOpen : List RowNo → List Kept → Type 0
ListsOpen order slots = Lists order (length slots) (is_open_row slots)

-- the rows on which something is open, in some order, and what is open on each row
pub record OpenTable : Type 0 where
  pub order : List RowNo
  pub opens : List Open

-- what is open on the row of this number
abbrev pub opened_on : List Open → ℕ → Open
opened_on opens row = slice_index_or opens row closed

-- whether something is open on a row
abbrev pub is_open_at : List Open → RowNo → Bool
is_open_at opens row = is_open (opened_on opens row.0)

-- this slot, with what is open on the row of this number
abbrev pub kept_on : SlotState → OpenTable → ℕ → Kept
kept_on slot table row = kept_slot slot (opened_on table.opens row)

-- on all rows but this one what is open stays
abbrev pub KeepsOthers : ℕ → OpenTable → OpenTable → Type 0
KeepsOthers row old new = new.opens ≡ slice_set old.opens row (opened_on new.opens row)

-- the row of this number
abbrev pub row_no : ℕ → RowNo
row_no k = record { 0 = k }

-- what is open on a row: what its entry says
abbrev pub open_at : List (ℕ × Open) → ℕ → Open
open_at entries row = unwrap_or (lookup (nat_eq row) entries) closed

-- the same row by row
abbrev pub opens_of : List (ℕ × Open) → List Open
opens_of entries = map (open_at entries) (range_with_len 0 (length entries))

-- the table of these entries, of which the first so many are those on which something is open
abbrev pub table_of : List (ℕ × Open) → ℕ → OpenTable
table_of entries count =
    record { order = map row_no (take count (keys_of entries)); opens = opens_of entries }

-- something is open on so many entries, the first of all
abbrev pub AreFirst : List (ℕ × Open) → ℕ → Type 0
AreFirst entries count = (k : ℕ) (d : ℕ × Open) → k < length entries → is_open (slice_index_or entries k d).1 ≡ nat_lt k count

-- the same of all entries but one
abbrev pub AreFirstBut : ℕ → List (ℕ × Open) → ℕ → Type 0
AreFirstBut place entries count =
    (k : ℕ) (d : ℕ × Open) → (k ≡ place → ⊥) → k < length entries → is_open (slice_index_or entries k d).1 ≡ nat_lt k count

-- each row has one entry, and the first so many are those on which something is open
pub record KeepsFirst (entries : List (ℕ × Open)) (count : ℕ) : Type 0 where
  pub few : count ≤ length entries
  pub narrow : length entries < 65536
  pub there : (row : ℕ) → row < length entries → is_some (lookup (nat_eq row) entries) ≡ true
  pub within : All (λ row. row < length entries) (keys_of entries)
  pub distinct : IsDistinct nat_eq (keys_of entries)
  pub first : AreFirst entries count

-- the mark and the numbers of a row's slot, in this life: it is blank where it was last put in another
abbrev pub slot_in : ℕ → Number → RowState → SlotState
slot_in life bare row =
    if row.life == life
    then record { mark = Some row.mark; read_no = row.read_no; write_no = row.write_no; last = row.last }
    else record { mark = None; read_no = bare; write_no = bare; last = number 0 }

-- a row at the start
abbrev pub first_row : RowState
first_row = record { life = 0; mark = 0; read_no = number 0; write_no = number 0; last = number 0 }

-- a row after its slot became this one, in this life: it was put, or read, unless it is blank
abbrev pub row_after : ℕ → Option ℕ → SlotState → RowState → RowState
row_after life None slot row = row
row_after life (Some mark) slot row = record { life = life; mark = mark; read_no = slot.read_no; write_no = slot.write_no; last = slot.last }

-- the mark and the numbers of a slot
abbrev pub figures : Kept → SlotState
figures slot = record { mark = slot.mark; read_no = slot.read_no; write_no = slot.write_no; last = slot.last }

-- the slots of some rows with what is open on them
abbrev pub slots_kept : ℕ → Number → List RowState → List Open → List Kept
slots_kept life bare [] opens = []
slots_kept life bare (row ∷ rows) [] = []
slots_kept life bare (row ∷ rows) (opened ∷ opens) = kept_slot (slot_in life bare row) opened ∷ slots_kept life bare rows opens

-- the slots of these rows of a bay, with what is open on them; both numbers of a blank one are `bare`
abbrev pub table_kept : BayState → Number → List RowState → OpenTable → Table
table_kept state bare rows table =
    record {
      state = state;
      slots = slots_kept state.life bare rows table.opens;
      order = table.order;
    }

-- no row was put in a later life; a blank slot has no readers; and without a device all slots are blank, and nothing is open
pub record RowKeeps (life : ℕ) (empty : Bool) (row : RowState) (opened : Open) : Type 0 where
  pub early : row.life ≤ life
  pub gone : empty ≡ true → (row.life < life) × (opened ≡ closed)
  pub bare : (row.life == life) ≡ false → opened.readers ≡ []

-- the same of each row
abbrev pub Keeping : ℕ → Bool → List RowState → List Open → Type 0
Keeping life empty [] [] = Unit {0}
Keeping life empty [] (opened ∷ opens) = ⊥
Keeping life empty (row ∷ rows) [] = ⊥
Keeping life empty (row ∷ rows) (opened ∷ opens) = RowKeeps life empty row opened × Keeping life empty rows opens
