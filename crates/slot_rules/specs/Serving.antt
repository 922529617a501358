-- One slot's part of the rule, and what of it needs the store.
use Rattle.std.specs.Prelude.{◌≡◌, ℕ, ◌<◌, ◌≤◌, IfSome, IsSome, Bool, true, false, if◌then◌else◌, List, length, slice_set, Option, Some, None}
use Rattle.raid_base.specs.declared.cells.Cell.{Cell}
use Rattle.raid_base.specs.declared.numbers.RowNo.{RowNo}
use Rattle.raid_base.specs.declared.messages.Ask.{Ask}
use Rattle.raid_base.specs.declared.messages.Reply.{Reply}
use Rattle.raid_base.specs.declared.messages.Reply.TheVariants.{Emptied, Fitted}
use Rattle.raid_base.specs.declared.messages.Request.{Request}
use Rattle.raid_base.specs.declared.messages.Request.TheVariants.{Share, Claim, Confirm, Put, Release, Lose, Fit}
use Rattle.raid_base.specs.Fits.{fits}
use Rattle.raid_base.specs.Replies.{is_fault}
use Rattle.slot_rules.specs.declared.slot.Verdict.{Verdict}
use Rattle.slot_rules.specs.declared.slot.Verdict.TheVariants.{Say, NeedRead, NeedWrite}
use Rattle.slot_rules.specs.Slots.{Slot, Bay, slot_of}
use Rattle.slot_rules.specs.Rules.{SlotOutcome, keeps, share_rule, claim_rule, confirm_rule, put_rule, release_rule, rule}
use Rattle.slot_rules.specs.Tables.{Table, with_blocks}

-- one slot's part of the rule
abbrev pub slot_rule : Bay → Slot → Ask → Bool → Request → SlotOutcome
slot_rule bay slot ask fails (Share row id want) = share_rule bay slot ask id want fails
slot_rule bay slot ask fails (Claim row id how mask want) = claim_rule how bay slot ask id mask want fails
slot_rule bay slot ask fails (Confirm row id want) = confirm_rule bay slot id want fails
slot_rule bay slot ask fails (Put row id n cell) = put_rule bay slot id n cell fails
slot_rule bay slot ask fails (Release row id n) = release_rule bay slot id n
slot_rule bay slot ask fails Lose = keeps slot Emptied
slot_rule bay slot ask fails Fit = keeps slot Fitted

-- whether a request is a put
abbrev pub is_put : Request → Bool
is_put (Put row id n cell) = true
is_put (Share row id want) = false
is_put (Claim row id how mask want) = false
is_put (Confirm row id want) = false
is_put (Release row id n) = false
is_put Lose = false
is_put Fit = false

-- what is asked of the store
abbrev pub need : Request → Verdict
need (Put row id n cell) = NeedWrite
need (Share row id want) = NeedRead
need (Claim row id how mask want) = NeedRead
need (Confirm row id want) = NeedRead
need (Release row id n) = NeedRead
need Lose = NeedRead
need Fit = NeedRead

-- the verdict, by the reply that there is where the store fails
abbrev pub verdict_for : Request → Reply → Verdict
verdict_for what reply = if is_fault reply then need what else Say reply

-- what the rule makes of an ask before the store is asked: it needs the store where it answers Fault should the store fail
abbrev pub verdict_of : Bay → Ask → Verdict
verdict_of bay ask = verdict_for ask.what (rule bay ask true).reply

-- the row of a request
abbrev pub row_of : Request → Option RowNo
row_of (Share row id want) = Some row
row_of (Claim row id how mask want) = Some row
row_of (Confirm row id want) = Some row
row_of (Put row id n cell) = Some row
row_of (Release row id n) = Some row
row_of Lose = None
row_of Fit = None

-- what a verdict says, whatever the blocks: a reply that fits and is no Fault, a row that is read, or a put
abbrev pub IsVerdict : Request → Verdict → Type 0
IsVerdict what (Say reply) = (fits what reply ≡ true) × (is_fault reply ≡ false)
IsVerdict what NeedRead = (is_put what ≡ false) × IsSome (row_of what)
IsVerdict what NeedWrite = is_put what ≡ true

-- the cell that a request writes, or else the one that it may show
abbrev pub needed_cell : Request → Option Cell → Option Cell
needed_cell (Put row id n new) there = Some new
needed_cell (Share row id want) there = there
needed_cell (Claim row id how mask want) there = there
needed_cell (Confirm row id want) there = there
needed_cell (Release row id n) there = there
needed_cell Lose there = there
needed_cell Fit there = there

-- the cell of a row of a bay
abbrev pub cell_at : Bay → Option RowNo → Option Cell
cell_at bay None = None
cell_at bay (Some row) = (slot_of bay row).cell

-- the cell that the store is needed for, where it is: the one read or written
abbrev pub served_cell : Bay → Ask → Option Cell
served_cell bay ask = if is_fault (rule bay ask true).reply then needed_cell ask.what (cell_at bay (row_of ask.what)) else None

-- the store's blocks after a request, where this cell was read or written
abbrev pub blocks_after : Request → Option Cell → List (List ℕ) → List (List ℕ)
blocks_after (Put row id n new) (Some cell) blocks = slice_set blocks row.0 cell.bytes
blocks_after (Put row id n new) None blocks = blocks
blocks_after (Share row id want) cell blocks = blocks
blocks_after (Claim row id how mask want) cell blocks = blocks
blocks_after (Confirm row id want) cell blocks = blocks
blocks_after (Release row id n) cell blocks = blocks
blocks_after Lose cell blocks = blocks
blocks_after Fit cell blocks = blocks

-- what is asked of bays of so many rows
pub record IsAskFor (rows : ℕ) (ask : Ask) : Type 0 where
  pub row : IfSome (row_of ask.what) (λ row. row.0 < rows)
  pub host : ask.host.0 < 16

-- what the rule makes of an ask before the store is asked, whatever the blocks
abbrev pub IsVerdictOf : Table → Ask → Verdict → Type 0
IsVerdictOf slots ask verdict =
    (blocks : List (List ℕ)) → verdict ≡ verdict_of (with_blocks slots blocks) ask

-- the reply is the rule's, where this cell is the one that was read or written
abbrev pub RepliesByRule : Table → Ask → Option Cell → Reply → Type 0
RepliesByRule slots ask cell reply =
    (blocks : List (List ℕ)) → cell ≡ served_cell (with_blocks slots blocks) ask →
    reply ≡ (rule (with_blocks slots blocks) ask false).reply

-- the slots and the store's blocks make up the rule's bay, where this cell is the one that was read or written
abbrev pub LeavesByRule : Table → Ask → Option Cell → Table → Type 0
LeavesByRule slots ask cell slots' =
    (blocks : List (List ℕ)) → length slots.slots ≤ length blocks →
    cell ≡ served_cell (with_blocks slots blocks) ask →
    with_blocks slots' (blocks_after ask.what cell blocks)
    ≡ (rule (with_blocks slots blocks) ask false).bay

-- the reply fits the request, where this cell is the one that was read or written
abbrev pub FitsWhereServed : Table → Ask → Option Cell → Reply → Type 0
FitsWhereServed slots ask cell reply =
    (blocks : List (List ℕ)) → cell ≡ served_cell (with_blocks slots blocks) ask →
    fits ask.what reply ≡ true
