-- How the slots' code makes up the rule of a bay.
use Rattle.std.proofs.Common.{◌≡◌, ℕ, ◌<◌, ◌≤◌, Bool, true, false, if◌then◌else◌, List, [], length, map, Option, Some, None, is_none, unwrap_or, ◌+◌, slice_index_or, slice_set, refl, sym, ap, subst, ◌∙◌, arith}
use Rattle.std.proofs.lemmas.List.{set-get_or}
use Rattle.raid_base.specs.declared.cells.Cell.{Cell}
use Rattle.raid_base.specs.declared.numbers.Number.{Number}
use Rattle.raid_base.specs.declared.numbers.RowNo.{RowNo}
use Rattle.raid_base.specs.declared.messages.Ask.{Ask}
use Rattle.raid_base.specs.declared.messages.Reply.{Reply}
use Rattle.raid_base.specs.declared.messages.Request.{Request}
use Rattle.raid_base.specs.declared.messages.Request.TheVariants.{Share, Claim, Confirm, Put, Release, Lose, Fit}
use Rattle.raid_base.specs.Numbers.{number}
use Rattle.raid_base.specs.Replies.{is_fault}
use Rattle.slot_rules.specs.declared.slot.BayState.{BayState}
use Rattle.slot_rules.specs.declared.slot.Verdict.{Verdict}
use Rattle.slot_rules.specs.Slots.{Slot, Bay, bare_slot, slot_of}
use Rattle.slot_rules.specs.Rules.{Outcome, raised, note_id, put_rule, share_rule, claim_rule, confirm_rule, release_rule, with_slot, lose_rule, fit_rule, rule_of, rule}
use Rattle.slot_rules.specs.Tables.{Kept, Table, bay_of, with_block, slots_with, with_blocks, bare_kept, lost_of}
use Rattle.slot_rules.specs.Serving.{row_of, slot_rule, verdict_for, verdict_of, needed_cell, cell_at, served_cell, blocks_after}
use Rattle.slot_rules.specs.Parts.{block_after, block_left, ServedSlot, ServedRow, device_after}
use Rattle.slot_rules.proofs.TableLists.{slot-there, slots-set, slots-bare}

-- the slot of a row
pub slot_of-there : (table : Table) (blocks : List (List ℕ)) (row : RowNo) (slot : Kept) → row.0 < length table.slots → slot ≡ slice_index_or table.slots row.0 slot →
    slot_of (with_blocks table blocks) row ≡ with_block slot (slice_index_or blocks row.0 [])
slot_of-there table blocks row slot l e =
    slot-there table.slots blocks row.0 (bare_slot (number 0)) slot l ∙ ap (λ (s : Kept). with_block s (slice_index_or blocks row.0 [])) (sym e)

-- a request of a row changes the slot of that row
pub rule_of-row : (bay : Bay) (ask : Ask) (fails : Bool) (what : Request) (row : RowNo) → row_of what ≡ Some row →
    rule_of bay ask fails what ≡ with_slot bay row (slot_of bay row) (slot_rule bay (slot_of bay row) ask fails what)
rule_of-row bay ask fails (Share r id want) row e =
    let same : r ≡ row = cc in ap (λ (t : RowNo). with_slot bay t (slot_of bay t) (share_rule bay (slot_of bay t) ask id want fails)) same
rule_of-row bay ask fails (Claim r id how mask want) row e =
    let same : r ≡ row = cc in ap (λ (t : RowNo). with_slot bay t (slot_of bay t) (claim_rule how bay (slot_of bay t) ask id mask want fails)) same
rule_of-row bay ask fails (Confirm r id want) row e =
    let same : r ≡ row = cc in ap (λ (t : RowNo). with_slot bay t (slot_of bay t) (confirm_rule bay (slot_of bay t) id want fails)) same
rule_of-row bay ask fails (Put r id n cell) row e =
    let same : r ≡ row = cc in ap (λ (t : RowNo). with_slot bay t (slot_of bay t) (put_rule bay (slot_of bay t) id n cell fails)) same
rule_of-row bay ask fails (Release r id n) row e =
    let same : r ≡ row = cc in ap (λ (t : RowNo). with_slot bay t (slot_of bay t) (release_rule bay (slot_of bay t) id n)) same
rule_of-row bay ask fails Lose row e = cc
rule_of-row bay ask fails Fit row e = cc

pub verdict-row : (table : Table) (blocks : List (List ℕ)) (ask : Ask) (row : RowNo) (slot : Kept) (verdict : Verdict) →
    row_of ask.what ≡ Some row → row.0 < length table.slots → slot ≡ slice_index_or table.slots row.0 slot →
    ((others : List Slot) (block : List ℕ) → verdict ≡ verdict_for ask.what (slot_rule (bay_of table.state others) (with_block slot block) ask true ask.what).reply) →
    verdict ≡ verdict_of (with_blocks table blocks) ask
verdict-row table blocks ask row slot verdict is l e all =
    all (slots_with table.slots blocks) (slice_index_or blocks row.0 [])
    ∙ ap (λ (s : Slot). verdict_for ask.what (slot_rule (with_blocks table blocks) s ask true ask.what).reply) (sym (slot_of-there table blocks row slot l e))
    ∙ ap (λ (o : Outcome). verdict_for ask.what o.reply) (sym (rule_of-row (with_blocks table blocks) ask true ask.what row is))

pub note-there : (table : Table) (row : RowNo) (slot : Kept) → row.0 < length table.slots → slot ≡ slice_index_or table.slots row.0 slot →
    (blocks : List (List ℕ)) → slot.note ≡ (slot_of (with_blocks table blocks) row).note
note-there table row slot l e = λ blocks. ap (λ (s : Slot). s.note) (sym (slot_of-there table blocks row slot l e))

blank_cell : (mark : Option ℕ) (slot : Kept) (block : List ℕ) → slot.mark ≡ mark → is_none slot.mark ≡ is_none (with_block slot block).cell
blank_cell None slot block e = rw e refl
blank_cell (Some lost) slot block e = rw e refl

pub missing-there : (table : Table) (row : RowNo) (slot : Kept) → row.0 < length table.slots → slot ≡ slice_index_or table.slots row.0 slot →
    (blocks : List (List ℕ)) → is_none slot.mark ≡ is_none (slot_of (with_blocks table blocks) row).cell
missing-there table row slot l e = λ blocks.
    blank_cell _ slot (slice_index_or blocks row.0 []) refl
    ∙ ap (λ (s : Slot). is_none s.cell) (sym (slot_of-there table blocks row slot l e))

mark_cell : (mark : Option ℕ) (slot : Kept) (block : List ℕ) → slot.mark ≡ mark → unwrap_or slot.mark 0 ≡ lost_of (with_block slot block).cell
mark_cell None slot block e = rw e refl
mark_cell (Some lost) slot block e = rw e refl

pub mark-there : (table : Table) (row : RowNo) (slot : Kept) → row.0 < length table.slots → slot ≡ slice_index_or table.slots row.0 slot →
    (blocks : List (List ℕ)) → unwrap_or slot.mark 0 ≡ lost_of (slot_of (with_blocks table blocks) row).cell
mark-there table row slot l e = λ blocks.
    mark_cell _ slot (slice_index_or blocks row.0 []) refl
    ∙ ap (λ (s : Slot). lost_of s.cell) (sym (slot_of-there table blocks row slot l e))

put-block : (bay : Bay) (slot : Slot) (row : RowNo) (id n : Number) (new : Cell) (cell : Option Cell) (block : List ℕ) (b : Bool) → note_id slot.note id ≡ b →
    cell ≡ (if is_fault (put_rule bay slot id n new true).reply then Some new else None) →
    block_after (Put row id n new) cell block ≡ (if note_id slot.note id then new.bytes else block)
put-block bay slot row id n new cell block true e h = let c : cell ≡ Some new = rw e at h in rw e (ap (λ x. block_after (Put row id n new) x block) c)
put-block bay slot row id n new cell block false e h = let c : cell ≡ None = rw e at h in rw e (ap (λ x. block_after (Put row id n new) x block) c)

-- what is written is the new cell's block, where the store did its part
block_same : (state : BayState) (others : List Slot) (kept : Kept) (ask : Ask) (cell : Option Cell) (block : List ℕ) (what : Request) →
    cell ≡ (if is_fault (slot_rule (bay_of state others) (with_block kept block) ask true what).reply then needed_cell what (with_block kept block).cell else None) →
    block_after what cell block ≡ block_left what kept.note block
block_same state others kept ask cell block (Put row id n new) h = put-block (bay_of state others) (with_block kept block) row id n new cell block _ refl h
block_same state others kept ask cell block (Share row id want) h = refl
block_same state others kept ask cell block (Claim row id how mask want) h = refl
block_same state others kept ask cell block (Confirm row id want) h = refl
block_same state others kept ask cell block (Release row id n) h = refl
block_same state others kept ask cell block Lose h = refl
block_same state others kept ask cell block Fit h = refl

-- a served row: the slot and its block, and the high number
pub served-row : (table : Table) (row : RowNo) (ask : Ask) (cell : Option Cell) (slot left : Kept) (reply : Reply) (high : Number) (order : List RowNo) →
    row.0 < length table.slots → slot ≡ slice_index_or table.slots row.0 slot → ServedSlot table.state ask cell slot reply left →
    high ≡ raised (raised table.state.high slot.read_no left.read_no) slot.write_no left.write_no →
    ServedRow row ask cell table reply (record { state = record table.state { high = high }; slots = slice_set table.slots row.0 left; order = order })
served-row table row ask cell slot left reply high order l e served he = λ blocks.
    let block = slice_index_or blocks row.0 [] in
    let bay = with_blocks table blocks in
    let after = block_after ask.what cell block in
    let new : Table = record { state = record table.state { high = high }; slots = slice_set table.slots row.0 left; order = order } in
    subst
    (λ (s : Slot). cell ≡ (if is_fault (slot_rule bay s ask true ask.what).reply then needed_cell ask.what s.cell else None) →
    (reply ≡ (slot_rule bay s ask false ask.what).reply)
    × (length table.slots ≤ length blocks → with_blocks new (slice_set blocks row.0 after) ≡ (with_slot bay row s (slot_rule bay s ask false ask.what)).bay))
    (sym (slot_of-there table blocks row slot l e))
    (λ h.
    let both = served (slots_with table.slots blocks) block in
    let same : block_after ask.what cell block ≡ block_left ask.what slot.note block = block_same table.state (slots_with table.slots blocks) slot ask cell block ask.what h in (
      both.0 h,
      λ few.
          ap (λ (t : List Slot). bay_of (record table.state { high = high }) t) (slots-set table.slots blocks row.0 left after l (omega arith))
          ∙ ap (λ (k : Number). bay_of (record table.state { high = k }) (slice_set (slots_with table.slots blocks) row.0 (with_block left after))) he
          ∙ ap (λ (o : Slot). (with_slot bay row (with_block slot block) (record { reply = reply; slot = o })).bay) (ap (λ b. with_block left b) same ∙ both.1),
    ))

-- the blocks that a request of a row leaves
blocks-row : (what : Request) (row : RowNo) (cell : Option Cell) (blocks : List (List ℕ)) → row_of what ≡ Some row →
    blocks_after what cell blocks ≡ slice_set blocks row.0 (block_after what cell (slice_index_or blocks row.0 []))
blocks-row (Share r id want) row cell blocks e = sym (set-get_or blocks row.0 [])
blocks-row (Claim r id how mask want) row cell blocks e = sym (set-get_or blocks row.0 [])
blocks-row (Confirm r id want) row cell blocks e = sym (set-get_or blocks row.0 [])
blocks-row (Put r id n new) row None blocks e = sym (set-get_or blocks row.0 [])
blocks-row (Put r id n new) row (Some cell) blocks e = let same : r ≡ row = cc in ap (λ (t : RowNo). slice_set blocks t.0 cell.bytes) same
blocks-row (Release r id n) row cell blocks e = sym (set-get_or blocks row.0 [])
blocks-row Lose row cell blocks e = cc
blocks-row Fit row cell blocks e = cc

pub applied-reply : (table new : Table) (row : RowNo) (ask : Ask) (cell : Option Cell) (reply : Reply) → row_of ask.what ≡ Some row → ServedRow row ask cell table reply new →
    (blocks : List (List ℕ)) → cell ≡ served_cell (with_blocks table blocks) ask → reply ≡ (rule (with_blocks table blocks) ask false).reply
applied-reply table new row ask cell reply is served blocks h =
    let bay = with_blocks table blocks in
    let needs : cell ≡ (if is_fault (slot_rule bay (slot_of bay row) ask true ask.what).reply then needed_cell ask.what (slot_of bay row).cell else None) =
    h ∙ ap (λ (o : Outcome). if is_fault o.reply then needed_cell ask.what (cell_at bay (row_of ask.what)) else None) (rule_of-row bay ask true ask.what row is)
    ∙ ap (λ r. if is_fault (slot_rule bay (slot_of bay row) ask true ask.what).reply then needed_cell ask.what (cell_at bay r) else None) is in
    (served blocks needs).0 ∙ ap (λ (o : Outcome). o.reply) (sym (rule_of-row bay ask false ask.what row is))

pub applied-row : (table new : Table) (row : RowNo) (ask : Ask) (cell : Option Cell) (reply : Reply) → row_of ask.what ≡ Some row → ServedRow row ask cell table reply new →
    (blocks : List (List ℕ)) → length table.slots ≤ length blocks → cell ≡ served_cell (with_blocks table blocks) ask →
    with_blocks new (blocks_after ask.what cell blocks) ≡ (rule (with_blocks table blocks) ask false).bay
applied-row table new row ask cell reply is served blocks few h =
    let bay = with_blocks table blocks in
    let needs : cell ≡ (if is_fault (slot_rule bay (slot_of bay row) ask true ask.what).reply then needed_cell ask.what (slot_of bay row).cell else None) =
    h ∙ ap (λ (o : Outcome). if is_fault o.reply then needed_cell ask.what (cell_at bay (row_of ask.what)) else None) (rule_of-row bay ask true ask.what row is)
    ∙ ap (λ r. if is_fault (slot_rule bay (slot_of bay row) ask true ask.what).reply then needed_cell ask.what (cell_at bay r) else None) is in
    ap (λ b. with_blocks new b) (blocks-row ask.what row cell blocks is)
    ∙ (served blocks needs).1 few
    ∙ ap (λ (o : Outcome). o.bay) (sym (rule_of-row bay ask false ask.what row is))

lost_by : (table : Table) (blocks : List (List ℕ)) (b : Bool) →
    with_blocks (if b then table else record { state = record table.state { empty = true; life = table.state.life + 1 }; slots = map (λ _. bare_kept (number 0)) table.slots; order = [] }) blocks
    ≡ (lose_rule (with_blocks table blocks) b).bay
lost_by table blocks true = refl
lost_by table blocks false = ap (λ (t : List Slot). bay_of (record table.state { empty = true; life = table.state.life + 1 }) t) (slots-bare (number 0) table.slots blocks)

fitted_by : (table : Table) (blocks : List (List ℕ)) (b : Bool) →
    with_blocks (if b then record { state = record table.state { empty = false }; slots = map (λ _. bare_kept table.state.high) table.slots; order = table.order } else table) blocks
    ≡ (fit_rule (with_blocks table blocks) b).bay
fitted_by table blocks true = ap (λ (t : List Slot). bay_of (record table.state { empty = false }) t) (slots-bare table.state.high table.slots blocks)
fitted_by table blocks false = refl

pub applied-device : (table : Table) (what : Request) (ask : Ask) (cell : Option Cell) (blocks : List (List ℕ)) → row_of what ≡ None →
    with_blocks (device_after what table) (blocks_after what cell blocks) ≡ (rule_of (with_blocks table blocks) ask false what).bay
applied-device table (Share r id want) ask cell blocks e = cc
applied-device table (Claim r id how mask want) ask cell blocks e = cc
applied-device table (Confirm r id want) ask cell blocks e = cc
applied-device table (Put r id n new) ask cell blocks e = cc
applied-device table (Release r id n) ask cell blocks e = cc
applied-device table Lose ask cell blocks e = lost_by table blocks table.state.empty
applied-device table Fit ask cell blocks e = fitted_by table blocks table.state.empty
