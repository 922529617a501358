-- What a bay makes of an ask, and what it keeps.
use Rattle.std.specs.Prelude.{◌≡◌, ℕ, drop, ◌+◌, ◌^◌, ◌<◌, if◌then◌else◌, List, [], ◌∷◌, Option}
use Rattle.raid_base.specs.declared.cells.Cell.{Cell}
use Rattle.raid_base.specs.declared.numbers.RowNo.{RowNo}
use Rattle.raid_base.specs.declared.messages.Ask.{Ask}
use Rattle.raid_base.specs.declared.messages.Entry.{Entry}
use Rattle.raid_base.specs.declared.messages.Reply.{Reply}
use Rattle.raid_base.specs.Replies.{is_fault}
use Rattle.raid_base.specs.Counts.{RisesBy}
use Rattle.slot_rules.specs.Slots.{Bay, slot_of}
use Rattle.slot_rules.specs.Tables.{Table}
use Rattle.slot_rules.specs.Serving.{IsAskFor}
use Rattle.slot_rules.specs.Handling.{Handled}

-- what is asked of a bay of so many rows
pub record IsAskOfBay (rows : ℕ) (ask : Ask) : Type 0 where
  pub served : IsAskFor rows ask
  pub clock : ask.clock < 2 ^ 62

-- the reply and the slots after it are the rule's over some blocks before and after, where those aren't told
pub record IsHandledSomehow (ask : Ask) (reply : Reply) (old new : Table) : Type 0 where
  pub blocks : List (List ℕ)
  pub later : List (List ℕ)
  pub is : Handled old blocks ask reply new later

-- the blocks behind the first so many stay
abbrev pub KeepsOthers : ℕ → List (List ℕ) → List (List ℕ) → Type 0
KeepsOthers rows blocks later = drop rows later ≡ drop rows blocks

-- how many replies are Fault
abbrev pub count_faults : List Entry → ℕ
count_faults [] = 0
count_faults (entry ∷ entries) = (if is_fault entry.reply then 1 else 0) + count_faults entries

-- since a count stood there it has risen by the Faults of a journal
abbrev pub RisesByFaults : List Entry → ℕ → ℕ → Type 0
RisesByFaults journal opening now = RisesBy (count_faults journal) opening now

-- the cell that a row has: none where its slot is missing
abbrev pub cell_of_row : Bay → RowNo → Option Cell
cell_of_row bay row = (slot_of bay row).cell
