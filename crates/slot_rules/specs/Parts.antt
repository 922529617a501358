-- How the parts of the code are said: what a slot refuses, what it grants, and what a served row and a changed device leave.
use Rattle.std.specs.Prelude.{◌≡◌, ℕ, ◌≤◌, ◌+◌, length, map, slice_index_or, Bool, true, false, if◌then◌else◌, ◌&&◌, not, List, [], slice_set, find, Option, Some, None}
use Rattle.raid_base.specs.declared.cells.Cell.{Cell}
use Rattle.raid_base.specs.declared.numbers.Number.{Number}
use Rattle.raid_base.specs.declared.numbers.RowNo.{RowNo}
use Rattle.raid_base.specs.declared.messages.Mode.{Mode}
use Rattle.raid_base.specs.declared.messages.Mode.TheVariants.{Lock, Order}
use Rattle.raid_base.specs.declared.messages.How.{How}
use Rattle.raid_base.specs.declared.messages.How.TheVariants.{Plain, Mend}
use Rattle.raid_base.specs.declared.messages.Ask.{Ask}
use Rattle.raid_base.specs.declared.messages.Note.{Note}
use Rattle.raid_base.specs.declared.messages.Reply.{Reply}
use Rattle.raid_base.specs.declared.messages.Reply.TheVariants.{Granted, Held, Emptied, Fitted}
use Rattle.raid_base.specs.declared.messages.Request.{Request}
use Rattle.raid_base.specs.declared.messages.Request.TheVariants.{Share, Claim, Confirm, Put, Release, Lose, Fit}
use Rattle.raid_base.specs.Numbers.{number}
use Rattle.raid_base.specs.Replies.{is_fault, is_missing}
use Rattle.slot_rules.specs.declared.opened.Open.{Open}
use Rattle.slot_rules.specs.declared.slot.BayState.{BayState}
use Rattle.slot_rules.specs.declared.slot.SlotState.{SlotState}
use Rattle.slot_rules.specs.declared.slot.Verdict.{Verdict}
use Rattle.slot_rules.specs.declared.slot.Verdict.TheVariants.{Say, NeedRead}
use Rattle.slot_rules.specs.Slots.{Slot, Bay}
use Rattle.slot_rules.specs.Rules.{SlotOutcome, keeps, reads, wanted_cell, share_rule, share_by, share_granted_lock, share_granted_order, claim_rule, claim_at, claim_granted, seize_rule, seize_granted, confirm_rule, release_rule, missing_floor, is_late, is_same_host, is_reader, with_reader, note_id, with_slot}
use Rattle.slot_rules.specs.Tables.{Kept, kept_slot, bay_of, with_block, Table, with_blocks, slot_over, bare_kept}
use Rattle.slot_rules.specs.Serving.{slot_rule, verdict_for, needed_cell}

-- the refusal, or else this
abbrev pub refused_or : Slot → Option Reply → SlotOutcome → SlotOutcome
refused_or slot (Some reply) outcome = keeps slot reply
refused_or slot None outcome = outcome

-- a refusal is no Fault
abbrev pub is_refusal : Option Reply → Bool
is_refusal None = true
is_refusal (Some reply) = not (is_fault reply)

-- the floor with which a slot answers where it is missing, whatever the other slots and its block
abbrev pub IsFloorOf : BayState → Kept → Option Number → Type 0
IsFloorOf state kept floor =
    (others : List Slot) (block : List ℕ) →
    floor ≡ missing_floor (bay_of state others) (with_block kept block)

-- whether such a claim of a slot is late, whatever is open on it, and whatever its block
abbrev pub IsWhetherLate : How → Mode → Number → SlotState → Bool → Type 0
IsWhetherLate how mode id slot late =
    (opened : Open) (block : List ℕ) →
    late ≡ is_late how mode id (with_block (kept_slot slot opened) block)

-- no reader of the ask's host has another id
abbrev pub IsAlone : Ask → Number → Open → Type 0
IsAlone ask id opened = find (is_same_host ask id) opened.readers ≡ None

-- what is open once the ask's host is let in as a reader, unless it is one
abbrev pub admitted : Ask → Number → Open → Open
admitted ask id opened =
    record opened {
      readers = with_reader ask id (find (is_reader id) opened.readers) opened.readers;
    }

-- the reply of a slot that grants, with this cell and the note that it seized
abbrev pub grant_reply : BayState → SlotState → Option Cell → Option Note → Reply
grant_reply state slot cell seized =
    Granted cell slot.read_no slot.write_no slot.last state.life seized

-- what a granted share does
abbrev pub share_granted : Mode → Bay → Slot → Ask → Number → Bool → SlotOutcome
share_granted Lock bay slot ask id want = share_granted_lock bay slot ask id want
share_granted Order bay slot ask id want = share_granted_order bay slot id want

-- a share is refused so where the slot isn't missing, or else the cell is read where it is wanted
abbrev pub RefusesShareBy : Mode → BayState → Kept → Ask → Number → Option Reply → Type 0
RefusesShareBy mode state kept ask id refusal =
    (others : List Slot) (block : List ℕ) (want fails : Bool) →
    share_by mode (bay_of state others) (with_block kept block) ask id want fails
    ≡ refused_or (with_block kept block) refusal
    (reads want fails (with_block kept block)
    (share_granted mode (bay_of state others) (with_block kept block) ask id want))

-- the same under stamps, by whatever bay and ask
abbrev pub RefusesUnderStamps : Kept → Number → Option Reply → Type 0
RefusesUnderStamps kept id refusal =
    (state : BayState) (ask : Ask) → RefusesShareBy Order state kept ask id refusal

-- the same under locks, by whatever bay and numbers of the slot
abbrev pub RefusesUnderLocks : Open → Ask → Number → Option Reply → Type 0
RefusesUnderLocks opened ask id refusal =
    (state : BayState) (slot : SlotState) →
    RefusesShareBy Lock state (kept_slot slot opened) ask id refusal

-- a share is refused so, or else the cell is read where it is wanted
abbrev pub RefusesShare : BayState → Kept → Ask → Number → Option Reply → Type 0
RefusesShare state kept ask id refusal =
    (others : List Slot) (block : List ℕ) (want fails : Bool) →
    share_rule (bay_of state others) (with_block kept block) ask id want fails
    ≡ refused_or (with_block kept block) refusal
    (reads want fails (with_block kept block)
    (share_granted state.mode (bay_of state others) (with_block kept block) ask id want))

-- a claim is refused so where no floor stands against it
abbrev pub RefusesClaimAt : BayState → Kept → Number → How → Option Reply → Type 0
RefusesClaimAt state kept id how refusal =
    (others : List Slot) (block : List ℕ) (ask : Ask) (mask : ℕ) (want fails : Bool) →
    claim_at (bay_of state others) (with_block kept block) ask id how mask want fails None
    ≡ refused_or (with_block kept block) refusal
    (reads want fails (with_block kept block)
    (claim_granted (bay_of state others) (with_block kept block) ask id mask want))

-- a claim, plain or to mend, is refused so, or else the cell is read where it is wanted
abbrev pub RefusesClaim : BayState → Kept → Ask → Number → How → Option Reply → Type 0
RefusesClaim state kept ask id how refusal =
    (others : List Slot) (block : List ℕ) (mask : ℕ) (want fails : Bool) →
    claim_rule how (bay_of state others) (with_block kept block) ask id mask want fails
    ≡ refused_or (with_block kept block) refusal
    (reads want fails (with_block kept block)
    (claim_granted (bay_of state others) (with_block kept block) ask id mask want))

-- the same of a plain claim
abbrev pub RefusesPlain : BayState → Kept → Ask → Number → Option Reply → Type 0
RefusesPlain state kept ask id refusal = RefusesClaim state kept ask id Plain refusal

-- the same of a claim to mend
abbrev pub RefusesMend : BayState → Kept → Ask → Number → Option Reply → Type 0
RefusesMend state kept ask id refusal = RefusesClaim state kept ask id Mend refusal

-- what a refused seizure leaves: on a blank slot the note is closed
abbrev pub seize_left : Bool → Reply → Slot → Slot
seize_left empty reply slot =
    if is_missing reply && not empty then record slot { note = None } else slot

-- the refusal of a seizure, or else this
abbrev pub seize_refused_or : Bool → Slot → Option Reply → SlotOutcome → SlotOutcome
seize_refused_or empty slot (Some reply) outcome = keeps (seize_left empty reply slot) reply
seize_refused_or empty slot None outcome = outcome

-- a seizure is refused so, whatever its id, or else the cell is read where it is wanted
abbrev pub RefusesSeize : BayState → Kept → Ask → Option Reply → Type 0
RefusesSeize state kept ask refusal =
    (id : Number) (others : List Slot) (block : List ℕ) (mask : ℕ) (want fails : Bool) →
    seize_rule (bay_of state others) (with_block kept block) ask id mask want fails
    ≡ seize_refused_or state.empty (with_block kept block) refusal
    (reads want fails (with_block kept block)
    (seize_granted (bay_of state others) (with_block kept block) ask id mask want kept.note))

-- a confirm is refused so, or else the cell is read where it is wanted
abbrev pub RefusesConfirm : BayState → Kept → Number → Option Reply → Type 0
RefusesConfirm state kept id refusal =
    (others : List Slot) (block : List ℕ) (want fails : Bool) →
    confirm_rule (bay_of state others) (with_block kept block) id want fails
    ≡ refused_or (with_block kept block) refusal
    (reads want fails (with_block kept block)
    (keeps (with_block kept block) (Held (wanted_cell want (with_block kept block)))))

-- what is said, or asked of the store
abbrev pub verdict_after : Option Reply → Bool → Reply → Verdict
verdict_after (Some reply) read grant = Say reply
verdict_after None true grant = NeedRead
verdict_after None false grant = Say grant

-- what the rule makes of this request of a slot before the store is asked, whatever the block
abbrev pub IsSlotVerdict : BayState → Kept → Ask → Request → Verdict → Type 0
IsSlotVerdict state kept ask what verdict =
    (others : List Slot) (block : List ℕ) →
    verdict
    ≡ verdict_for what (slot_rule (bay_of state others) (with_block kept block) ask true what).reply

-- the reply to a release, whatever its number, and whatever the rest of the slot
abbrev pub IsReleaseReply : BayState → Open → Number → Reply → Type 0
IsReleaseReply state opened id reply =
    (slot : SlotState) (others : List Slot) (block : List ℕ) (n : Option Number) →
    reply
    ≡ (release_rule (bay_of state others) (with_block (kept_slot slot opened) block) id n).reply

-- a request was served: what is left is what the rule leaves where the store doesn't fail, and so is the reply where this
-- cell is the one that the store was needed for, and there is none where it wasn't
abbrev pub Served : (Bool → SlotOutcome) → Option Cell → Option Cell → Reply → Slot → Type 0
Served outcome there cell reply left =
    (cell ≡ (if is_fault (outcome true).reply then there else None) → reply ≡ (outcome false).reply)
    × (left ≡ (outcome false).slot)

-- a request that may show its cell was served by this rule, whether the cell is wanted or not
abbrev pub ServedBy : (Bay → Slot → Bool → Bool → SlotOutcome) → BayState → Option Cell →
    Kept → Reply → Kept → Type 0
ServedBy rule state cell kept reply left =
    (others : List Slot) (block : List ℕ) (want : Bool) →
    Served (λ fails. rule (bay_of state others) (with_block kept block) want fails)
    (with_block kept block).cell cell reply (with_block left block)

-- a request that shows no cell was served by this rule, and its block became this
abbrev pub DoneBy : (Bay → Slot → SlotOutcome) → (List ℕ → List ℕ) → BayState →
    Kept → Reply → Kept → Type 0
DoneBy rule written state kept reply left =
    (others : List Slot) (block : List ℕ) →
    (reply ≡ (rule (bay_of state others) (with_block kept block)).reply)
    × (with_block left (written block) ≡ (rule (bay_of state others) (with_block kept block)).slot)

-- a block after a put of this cell: it is written where the open note has the id
abbrev pub block_put : Option Note → Number → Cell → List ℕ → List ℕ
block_put noted id cell block = if note_id noted id then cell.bytes else block

-- a block after a request, where this cell was read or written
abbrev pub block_after : Request → Option Cell → List ℕ → List ℕ
block_after (Put row id n new) (Some cell) block = cell.bytes
block_after (Put row id n new) None block = block
block_after (Share row id want) cell block = block
block_after (Claim row id how mask want) cell block = block
block_after (Confirm row id want) cell block = block
block_after (Release row id n) cell block = block
block_after Lose cell block = block
block_after Fit cell block = block

-- a block after a request was served, where the store doesn't fail: a put with the open note's id wrote it
abbrev pub block_left : Request → Option Note → List ℕ → List ℕ
block_left (Put row id n new) noted block = block_put noted id new block
block_left (Share row id want) noted block = block
block_left (Claim row id how mask want) noted block = block
block_left (Confirm row id want) noted block = block
block_left (Release row id n) noted block = block
block_left Lose noted block = block
block_left Fit noted block = block

-- one slot was asked, and its block is this
abbrev pub ServedSlot : BayState → Ask → Option Cell → Kept → Reply → Kept → Type 0
ServedSlot state ask cell kept reply left =
    (others : List Slot) (block : List ℕ) →
    Served (λ fails. slot_rule (bay_of state others) (with_block kept block) ask fails ask.what)
    (needed_cell ask.what (with_block kept block).cell) cell reply
    (with_block left (block_left ask.what kept.note block))

-- the rule's part for the slot of a row, over these blocks
abbrev pub row_rule : Table → List (List ℕ) → RowNo → Ask → Bool → SlotOutcome
row_rule slots blocks row ask fails =
    slot_rule (with_blocks slots blocks) (slot_over slots blocks row) ask fails ask.what

-- a row was asked, and the slots are over these blocks
abbrev pub ServedRow : RowNo → Ask → Option Cell → Table → Reply → Table → Type 0
ServedRow row ask cell old reply new =
    (blocks : List (List ℕ)) →
    cell
    ≡ (if is_fault (row_rule old blocks row ask true).reply
    then needed_cell ask.what (slot_over old blocks row).cell
    else None) →
    (reply ≡ (row_rule old blocks row ask false).reply)
    × (length old.slots ≤ length blocks →
    with_blocks new
    (slice_set blocks row.0 (block_after ask.what cell (slice_index_or blocks row.0 [])))
    ≡ (with_slot (with_blocks old blocks) row (slot_over old blocks row)
    (row_rule old blocks row ask false)).bay)

-- what is answered to a request without a row
abbrev pub device_reply : Request → Reply
device_reply Lose = Emptied
device_reply _ = Fitted

-- the slots without the device
abbrev pub table_lost : Table → Table
table_lost table =
    if table.state.empty
    then table
    else record {
      state = record table.state { empty = true; life = table.state.life + 1 };
      slots = map (λ _. bare_kept (number 0)) table.slots;
      order = [];
    }

-- the slots with a device again
abbrev pub table_fitted : Table → Table
table_fitted table =
    if table.state.empty
    then record {
      state = record table.state { empty = false };
      slots = map (λ _. bare_kept table.state.high) table.slots;
      order = table.order;
    }
    else table

-- the slots after a request without a row
abbrev pub device_after : Request → Table → Table
device_after Lose table = table_lost table
device_after _ table = table_fitted table
