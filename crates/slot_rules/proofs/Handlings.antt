-- Judging, then the store if it is needed, then applying is the rule.
use Rattle.std.proofs.Common.{◌≡◌, ℕ, ◌<◌, ◌≤◌, Bool, true, false, if◌then◌else◌, List, [], length, replicate, Option, Some, None, is_some, IsSome, slice_index_or, slice_set, refl, sym, ap, subst, ◌∙◌, rules}
use Rattle.std.proofs.lemmas.List.{get_or-replicate}
use Rattle.raid_base.specs.declared.cells.Cell.{Cell}
use Rattle.raid_base.specs.declared.numbers.Number.{Number}
use Rattle.raid_base.specs.declared.numbers.RowNo.{RowNo}
use Rattle.raid_base.specs.declared.messages.Ask.{Ask}
use Rattle.raid_base.specs.declared.messages.Reply.{Reply}
use Rattle.raid_base.specs.declared.messages.Reply.TheVariants.{Fault}
use Rattle.raid_base.specs.declared.messages.Request.{Request}
use Rattle.raid_base.specs.declared.messages.Request.TheVariants.{Share, Claim, Confirm, Put, Release, Lose, Fit}
use Rattle.raid_base.specs.Numbers.{number}
use Rattle.raid_base.specs.Fits.{fits}
use Rattle.raid_base.specs.Replies.{is_fault}
use Rattle.slot_rules.specs.declared.slot.Verdict.{Verdict}
use Rattle.slot_rules.specs.declared.slot.Verdict.TheVariants.{Say, NeedRead, NeedWrite}
use Rattle.slot_rules.specs.Slots.{Slot, Bay, slot_of, bare_slot}
use Rattle.slot_rules.specs.Rules.{Outcome, lose_rule, fit_rule, rule_of, rule}
use Rattle.slot_rules.specs.Tables.{Table, cell_of, with_block, with_blocks, lost_of, first_kept}
use Rattle.slot_rules.specs.Serving.{IsVerdict, row_of, is_put, need, verdict_of, needed_cell, cell_at, served_cell, blocks_after}
use Rattle.slot_rules.specs.Parts.{ServedRow}
use Rattle.slot_rules.specs.Laws.{uses_store}
use Rattle.slot_rules.specs.Handling.{Handled}
use Rattle.slot_rules.proofs.TableLists.{slot-there}
use Rattle.slot_rules.proofs.TableParts.{applied-reply}
use Rattle.slot_rules.proofs.RuleLaws.{replies_fit_lem, faults_lem, cells-there}

-- what `Slots::apply` ensures
pub record Applied (slots : Table) (ask : Ask) (cell : Option Cell) (reply : Reply) (slots' : Table) : Type 0 where
  pub reply_is : (blocks : List (List ℕ)) → cell ≡ served_cell (with_blocks slots blocks) ask → reply ≡ (rule (with_blocks slots blocks) ask false).reply
  pub bay_is : (blocks : List (List ℕ)) → length slots.slots ≤ length blocks → cell ≡ served_cell (with_blocks slots blocks) ask →
      with_blocks slots' (blocks_after ask.what cell blocks) ≡ (rule (with_blocks slots blocks) ask false).bay

need_said : (what : Request) (r : Reply) → need what ≡ Say r → ⊥
need_said (Share row id want) r e = cc
need_said (Claim row id how mask want) r e = cc
need_said (Confirm row id want) r e = cc
need_said (Put row id n cell) r e = cc
need_said (Release row id n) r e = cc
need_said Lose r e = cc
need_said Fit r e = cc

said_by : (what : Request) (reply r : Reply) (b : Bool) → is_fault reply ≡ b → (if b then need what else Say reply) ≡ Say r → (is_fault reply ≡ false) × (reply ≡ r)
said_by what reply r true f e = absurd (need_said what r e)
said_by what reply r false f e = (f, let same : reply ≡ r = cc in same)

needs_by : (what : Request) (reply : Reply) (b : Bool) → is_fault reply ≡ b → (verdict : Verdict) → (if b then need what else Say reply) ≡ verdict → ((r : Reply) → verdict ≡ Say r → ⊥) →
    (is_fault reply ≡ true) × (need what ≡ verdict)
needs_by what reply true f verdict e n = (f, e)
needs_by what reply false f verdict e n = absurd (n reply (sym e))

-- nothing is said: the store is needed
pub needs-read : (bay : Bay) (ask : Ask) → verdict_of bay ask ≡ NeedRead → (uses_store bay ask ≡ true) × (need ask.what ≡ NeedRead)
needs-read bay ask e = needs_by ask.what (rule bay ask true).reply _ refl NeedRead e (λ r h. cc)

pub needs-write : (bay : Bay) (ask : Ask) → verdict_of bay ask ≡ NeedWrite → (uses_store bay ask ≡ true) × (need ask.what ≡ NeedWrite)
needs-write bay ask e = needs_by ask.what (rule bay ask true).reply _ refl NeedWrite e (λ r h. cc)

-- only a put is written
pub write-is-put : (what : Request) → need what ≡ NeedWrite → is_put what ≡ true
write-is-put (Share row id want) e = cc
write-is-put (Claim row id how mask want) e = cc
write-is-put (Confirm row id want) e = cc
write-is-put (Put row id n cell) e = refl
write-is-put (Release row id n) e = cc
write-is-put Lose e = cc
write-is-put Fit e = cc

blocks_after-none : (what : Request) (blocks : List (List ℕ)) → blocks_after what None blocks ≡ blocks
blocks_after-none (Share row id want) blocks = refl
blocks_after-none (Claim row id how mask want) blocks = refl
blocks_after-none (Confirm row id want) blocks = refl
blocks_after-none (Put row id n cell) blocks = refl
blocks_after-none (Release row id n) blocks = refl
blocks_after-none Lose blocks = refl
blocks_after-none Fit blocks = refl

blocks_after-read : (what : Request) (cell : Option Cell) (blocks : List (List ℕ)) → need what ≡ NeedRead → blocks_after what cell blocks ≡ blocks
blocks_after-read (Share row id want) cell blocks e = refl
blocks_after-read (Claim row id how mask want) cell blocks e = refl
blocks_after-read (Confirm row id want) cell blocks e = refl
blocks_after-read (Put row id n new) cell blocks e = cc
blocks_after-read (Release row id n) cell blocks e = refl
blocks_after-read Lose cell blocks e = refl
blocks_after-read Fit cell blocks e = refl

needed_cell-read : (what : Request) (there : Option Cell) → need what ≡ NeedRead → needed_cell what there ≡ there
needed_cell-read (Share row id want) there e = refl
needed_cell-read (Claim row id how mask want) there e = refl
needed_cell-read (Confirm row id want) there e = refl
needed_cell-read (Put row id n new) there e = cc
needed_cell-read (Release row id n) there e = refl
needed_cell-read Lose there e = refl
needed_cell-read Fit there e = refl

pub served-said : (bay : Bay) (ask : Ask) (r : Reply) → verdict_of bay ask ≡ Say r → None ≡ served_cell bay ask
served-said bay ask r e =
    let said = said_by ask.what (rule bay ask true).reply r _ refl e in
    sym (ap (λ b. if b then needed_cell ask.what (cell_at bay (row_of ask.what)) else None) said.0)

cell_known : (mark : Option ℕ) (block : List ℕ) → is_some (cell_of mark block) ≡ true → cell_of mark block ≡ Some (record { bytes = block; lost = lost_of (cell_of mark block) })
cell_known None block e = absurd (let bad : false ≡ true = e in cc)
cell_known (Some lost) block e = refl

-- the cell of a slot that has one: the block of its row, and its mark
pub cell-there : (slots : Table) (blocks : List (List ℕ)) (row : RowNo) → row.0 < length slots.slots → is_some (slot_of (with_blocks slots blocks) row).cell ≡ true →
    (slot_of (with_blocks slots blocks) row).cell ≡ Some (record { bytes = slice_index_or blocks row.0 []; lost = lost_of (slot_of (with_blocks slots blocks) row).cell })
cell-there slots blocks row l s =
    let kept = slice_index_or slots.slots row.0 first_kept in
    let block = slice_index_or blocks row.0 [] in
    let there : slot_of (with_blocks slots blocks) row ≡ with_block kept block = slot-there slots.slots blocks row.0 (bare_slot (number 0)) first_kept l in
    subst (λ (t : Slot). is_some t.cell ≡ true → t.cell ≡ Some (record { bytes = block; lost = lost_of t.cell })) (sym there) (cell_known kept.mark block) s

pub served-read : (slots : Table) (blocks : List (List ℕ)) (ask : Ask) (row : RowNo) (cell : Cell) → verdict_of (with_blocks slots blocks) ask ≡ NeedRead →
    row_of ask.what ≡ Some row → row.0 < length slots.slots → cell.bytes ≡ slice_index_or blocks row.0 [] → cell.lost ≡ lost_of (slot_of (with_blocks slots blocks) row).cell →
    Some cell ≡ served_cell (with_blocks slots blocks) ask
served-read slots blocks ask row cell e is l b m =
    let bay = with_blocks slots blocks in
    let needs = needs-read bay ask e in
    let some : is_some (cell_at bay (row_of ask.what)) ≡ true = cells-there bay ask needs.0 needs.1 in
    let there : is_some (slot_of bay row).cell ≡ true = ap (λ r. is_some (cell_at bay r)) (sym is) ∙ some in
    ap (λ (x : List ℕ). Some (record { bytes = x; lost = cell.lost })) b
    ∙ ap (λ (x : ℕ). Some (record { bytes = slice_index_or blocks row.0 []; lost = x })) m
    ∙ sym (cell-there slots blocks row l there)
    ∙ ap (λ r. cell_at bay r) (sym is)
    ∙ sym (needed_cell-read ask.what (cell_at bay (row_of ask.what)) needs.1)
    ∙ sym (ap (λ b. if b then needed_cell ask.what (cell_at bay (row_of ask.what)) else None) needs.0)

pub served-write : (bay : Bay) (ask : Ask) (row : RowNo) (id n : Number) (cell : Cell) → verdict_of bay ask ≡ NeedWrite → ask.what ≡ Put row id n cell → Some cell ≡ served_cell bay ask
served-write bay ask row id n cell e is =
    let needs = needs-write bay ask e in
    sym (ap (λ w. needed_cell w (cell_at bay (row_of ask.what))) is)
    ∙ sym (ap (λ b. if b then needed_cell ask.what (cell_at bay (row_of ask.what)) else None) needs.0)

-- the store did its part, or wasn't needed
pub handled-applied : (slots slots' : Table) (blocks blocks' : List (List ℕ)) (ask : Ask) (cell : Option Cell) (reply : Reply) → length slots.slots ≤ length blocks →
    cell ≡ served_cell (with_blocks slots blocks) ask → blocks_after ask.what cell blocks ≡ blocks' → Applied slots ask cell reply slots' → Handled slots blocks ask reply slots' blocks'
handled-applied slots slots' blocks blocks' ask cell reply few served after applied =
    let bay = with_blocks slots blocks in
    let said = applied.reply_is blocks served in
    let works : is_fault reply ≡ false = ap (λ r. is_fault r) said ∙ (faults_lem bay ask).works in
    record {
      reply_is = said ∙ ap (λ b. (rule bay ask b).reply) (sym works);
      bay_is = ap (λ b. with_blocks slots' b) (sym after) ∙ applied.bay_is blocks few served ∙ ap (λ b. (rule bay ask b).bay) (sym works);
    }

pub handled-said : (slots slots' : Table) (blocks : List (List ℕ)) (ask : Ask) (r reply : Reply) → length slots.slots ≤ length blocks →
    verdict_of (with_blocks slots blocks) ask ≡ Say r → Applied slots ask None reply slots' → Handled slots blocks ask reply slots' blocks
handled-said slots slots' blocks ask r reply few e applied =
    handled-applied slots slots' blocks blocks ask None reply few (served-said (with_blocks slots blocks) ask r e) (blocks_after-none ask.what blocks) applied

pub handled-read : (slots slots' : Table) (blocks : List (List ℕ)) (ask : Ask) (row : RowNo) (cell : Cell) (reply : Reply) → length slots.slots ≤ length blocks →
    verdict_of (with_blocks slots blocks) ask ≡ NeedRead → row_of ask.what ≡ Some row → row.0 < length slots.slots →
    cell.bytes ≡ slice_index_or blocks row.0 [] → cell.lost ≡ lost_of (slot_of (with_blocks slots blocks) row).cell →
    Applied slots ask (Some cell) reply slots' → Handled slots blocks ask reply slots' blocks
handled-read slots slots' blocks ask row cell reply few e is l b m applied =
    handled-applied slots slots' blocks blocks ask (Some cell) reply few (served-read slots blocks ask row cell e is l b m)
    (blocks_after-read ask.what (Some cell) blocks (needs-read (with_blocks slots blocks) ask e).1) applied

pub handled-written : (slots slots' : Table) (blocks : List (List ℕ)) (ask : Ask) (row : RowNo) (id n : Number) (cell : Cell) (reply : Reply) → length slots.slots ≤ length blocks →
    verdict_of (with_blocks slots blocks) ask ≡ NeedWrite → ask.what ≡ Put row id n cell →
    Applied slots ask (Some cell) reply slots' → Handled slots blocks ask reply slots' (slice_set blocks row.0 cell.bytes)
handled-written slots slots' blocks ask row id n cell reply few e is applied =
    handled-applied slots slots' blocks (slice_set blocks row.0 cell.bytes) ask (Some cell) reply few (served-write (with_blocks slots blocks) ask row id n cell e is)
    (ap (λ w. blocks_after w (Some cell) blocks) is) applied

-- the store is needed and fails
pub handled-failed : (slots : Table) (blocks : List (List ℕ)) (ask : Ask) → uses_store (with_blocks slots blocks) ask ≡ true → Handled slots blocks ask Fault slots blocks
handled-failed slots blocks ask u =
    let bay = with_blocks slots blocks in
    let failed = (faults_lem bay ask).failed u in
    record { reply_is = sym (ap (λ (o : Outcome). o.reply) failed); bay_is = sym (ap (λ (o : Outcome). o.bay) failed) }

lose_spared : (bay : Bay) (b : Bool) → is_fault (lose_rule bay b).reply ≡ false
lose_spared bay true = refl
lose_spared bay false = refl

fit_spared : (bay : Bay) (b : Bool) → is_fault (fit_rule bay b).reply ≡ false
fit_spared bay true = refl
fit_spared bay false = refl

device_spared : (bay : Bay) (ask : Ask) (what : Request) → row_of what ≡ None → is_fault (rule_of bay ask true what).reply ≡ false
device_spared bay ask (Share row id want) e = cc
device_spared bay ask (Claim row id how mask want) e = cc
device_spared bay ask (Confirm row id want) e = cc
device_spared bay ask (Put row id n cell) e = cc
device_spared bay ask (Release row id n) e = cc
device_spared bay ask Lose e = lose_spared bay bay.empty
device_spared bay ask Fit e = fit_spared bay bay.empty

row_there : (bay : Bay) (ask : Ask) (row : Option RowNo) → row_of ask.what ≡ row → uses_store bay ask ≡ true → IsSome (row_of ask.what)
row_there bay ask None e u = absurd (let bad : true ≡ false = sym u ∙ device_spared bay ask ask.what e in cc)
row_there bay ask (Some row) e u = rw e search rules

read-is-no-put : (what : Request) → need what ≡ NeedRead → is_put what ≡ false
read-is-no-put (Share row id want) e = refl
read-is-no-put (Claim row id how mask want) e = refl
read-is-no-put (Confirm row id want) e = refl
read-is-no-put (Put row id n cell) e = cc
read-is-no-put (Release row id n) e = refl
read-is-no-put Lose e = refl
read-is-no-put Fit e = refl

-- what a verdict says, whatever the blocks
pub verdict_shape : (bay : Bay) (ask : Ask) (verdict : Verdict) → verdict ≡ verdict_of bay ask → IsVerdict ask.what verdict
verdict_shape bay ask (Say reply) e =
    let said = said_by ask.what (rule bay ask true).reply reply _ refl (sym e) in
    (ap (λ r. fits ask.what r) (sym said.1) ∙ replies_fit_lem bay ask true, ap (λ r. is_fault r) (sym said.1) ∙ said.0)
verdict_shape bay ask NeedRead e = let needs = needs-read bay ask (sym e) in (read-is-no-put ask.what needs.1, row_there bay ask _ refl needs.0)
verdict_shape bay ask NeedWrite e = write-is-put ask.what (needs-write bay ask (sym e)).1

-- the same where the store doesn't tell its blocks: some blocks hold what was read
pub served-untold : (slots : Table) (ask : Ask) (row : RowNo) (cell : Cell) → ((blocks : List (List ℕ)) → NeedRead ≡ verdict_of (with_blocks slots blocks) ask) →
    row_of ask.what ≡ Some row → row.0 < length slots.slots → ((blocks : List (List ℕ)) → cell.lost ≡ lost_of (slot_of (with_blocks slots blocks) row).cell) →
    Some cell ≡ served_cell (with_blocks slots (replicate (length slots.slots) cell.bytes)) ask
served-untold slots ask row cell verdict is l lost =
    let blocks = replicate (length slots.slots) cell.bytes in
    served-read slots blocks ask row cell (sym (verdict blocks)) is l (sym (get_or-replicate (length slots.slots) row.0 cell.bytes [] l)) (lost blocks)

pub applied-fits : (slots new : Table) (row : RowNo) (ask : Ask) (cell : Option Cell) (reply : Reply) → row_of ask.what ≡ Some row → ServedRow row ask cell slots reply new →
    (blocks : List (List ℕ)) → cell ≡ served_cell (with_blocks slots blocks) ask → fits ask.what reply ≡ true
applied-fits slots new row ask cell reply is served blocks h =
    let bay = with_blocks slots blocks in
    let said : reply ≡ (rule bay ask false).reply = applied-reply slots new row ask cell reply is served blocks h in
    ap (λ r. fits ask.what r) said ∙ replies_fit_lem bay ask false
