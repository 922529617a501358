-- What a bay makes of an ask is the rule's, whether the store is needed or not.
use Rattle.std.proofs.Common.{◌≡◌, ◌∙◌, ℕ, ◌<◌, ◌≤◌, Bool, true, false, List, [], length, slice_index_or, Option, Some, None, refl, ap, sym, arith}
use Rattle.std.proofs.lemmas.List.{get_or_default}
use Rattle.raid_base.specs.declared.cells.Cell.{Cell}
use Rattle.raid_base.specs.declared.messages.Ask.{Ask}
use Rattle.raid_base.specs.declared.messages.Reply.{Reply}
use Rattle.raid_base.specs.declared.messages.Reply.TheVariants.{Fault}
use Rattle.raid_base.specs.declared.messages.Request.{Request}
use Rattle.raid_base.specs.declared.messages.Request.TheVariants.{Share, Claim, Confirm, Put, Release, Lose, Fit}
use Rattle.raid_base.specs.declared.numbers.Number.{Number}
use Rattle.raid_base.specs.declared.numbers.RowNo.{RowNo}
use Rattle.raid_base.specs.Cells.{zeros}
use Rattle.raid_base.specs.Counts.{HasCause}
use Rattle.raid_base.specs.Replies.{is_fault}
use Rattle.slot_rules.specs.declared.slot.Verdict.TheVariants.{Say, NeedRead, NeedWrite}
use Rattle.slot_rules.specs.Slots.{Bay, slot_of}
use Rattle.slot_rules.specs.Tables.{Table, lost_of, with_blocks}
use Rattle.slot_rules.specs.Serving.{IsAskFor, verdict_of, need, row_of, served_cell}
use Rattle.slot_rules.specs.Handling.{Handled}
use Rattle.slot_rules.proofs.RuleLaws.{faults_lem}
use Rattle.slot_rules.proofs.Handlings.{Applied, needs-read, needs-write, served-said, served-read, handled-said, handled-read, handled-failed}

-- handled, and no Fault
pub record Works (slots : Table) (blocks : List (List ℕ)) (ask : Ask) (reply : Reply) (slots' : Table) (blocks' : List (List ℕ)) : Type 0 where
  pub is : Handled slots blocks ask reply slots' blocks'
  pub fine : is_fault reply ≡ false

fine_by : (slots slots' : Table) (blocks : List (List ℕ)) (ask : Ask) (cell : Option Cell) (reply : Reply)
    → cell ≡ served_cell (with_blocks slots blocks) ask → Applied slots ask cell reply slots' → is_fault reply ≡ false
fine_by slots slots' blocks ask cell reply s a = ap is_fault (a.reply_is blocks s) ∙ (faults_lem (with_blocks slots blocks) ask).works

pub said-works : (slots slots' : Table) (blocks : List (List ℕ)) (ask : Ask) (said reply : Reply) → length slots.slots ≤ length blocks
    → Say said ≡ verdict_of (with_blocks slots blocks) ask → Applied slots ask None reply slots' → Works slots blocks ask reply slots' blocks
said-works slots slots' blocks ask said reply few v a = record {
  is = handled-said slots slots' blocks ask said reply few (sym v) a;
  fine = fine_by slots slots' blocks ask None reply (served-said (with_blocks slots blocks) ask said (sym v)) a;
}

pub row-within : (rows : ℕ) (ask : Ask) (row : RowNo) → row_of ask.what ≡ Some row → IsAskFor rows ask → row.0 < rows
row-within rows ask row is asks = rw is at asks.row

pub read-works : (slots slots' : Table) (blocks : List (List ℕ)) (ask : Ask) (row : RowNo) (cell : Cell) (reply : Reply) → length slots.slots ≤ length blocks
    → verdict_of (with_blocks slots blocks) ask ≡ NeedRead → row_of ask.what ≡ Some row → IsAskFor (length slots.slots) ask
    → cell.bytes ≡ slice_index_or blocks row.0 zeros → cell.lost ≡ lost_of (slot_of (with_blocks slots blocks) row).cell
    → Applied slots ask (Some cell) reply slots' → Works slots blocks ask reply slots' blocks
read-works slots slots' blocks ask row cell reply few v is asks b m a =
    let within : row.0 < length slots.slots = row-within (length slots.slots) ask row is asks in
    let e : cell.bytes ≡ slice_index_or blocks row.0 [] = b ∙ get_or_default blocks row.0 zeros [] (omega arith) in
    record {
      is = handled-read slots slots' blocks ask row cell reply few v is within e m a;
      fine = fine_by slots slots' blocks ask (Some cell) reply (served-read slots blocks ask row cell v is within e m) a;
    }

pub read-fails : (slots : Table) (blocks : List (List ℕ)) (ask : Ask) → verdict_of (with_blocks slots blocks) ask ≡ NeedRead → Handled slots blocks ask Fault slots blocks
read-fails slots blocks ask v = handled-failed slots blocks ask (needs-read (with_blocks slots blocks) ask v).0

pub write-fails : (slots : Table) (blocks : List (List ℕ)) (ask : Ask) → verdict_of (with_blocks slots blocks) ask ≡ NeedWrite → Handled slots blocks ask Fault slots blocks
write-fails slots blocks ask v = handled-failed slots blocks ask (needs-write (with_blocks slots blocks) ask v).0

pub fine-cause : (before now : ℕ) (fault : Bool) → before ≤ now → fault ≡ false → HasCause before now fault
fine-cause before now fault le f = record { later = le; failed = λ h. cc }

-- a request that is read has a row, and one that is written is a put
no_row : (bay : Bay) (ask : Ask) (what : Request) → need what ≡ NeedRead → is_fault (Rattle.slot_rules.specs.Rules.rule_of bay ask true what).reply ≡ true → row_of what ≡ None → ⊥
no_row bay ask (Share row id want) n h e = cc
no_row bay ask (Claim row id how mask want) n h e = cc
no_row bay ask (Confirm row id want) n h e = cc
no_row bay ask (Put row id m cell) n h e = cc
no_row bay ask (Release row id m) n h e = cc
no_row bay ask Lose n h e = let never = (faults_lem bay (record ask { what = Lose })).works in cc
no_row bay ask Fit n h e = let never = (faults_lem bay (record ask { what = Fit })).works in cc

pub no-row-read : (bay : Bay) (ask : Ask) → NeedRead ≡ verdict_of bay ask → row_of ask.what ≡ None → ⊥
no-row-read bay ask v e = let n = needs-read bay ask (sym v) in no_row bay ask ask.what n.1 n.0 e

other_puts : (what : Request) → need what ≡ NeedWrite → ((row : RowNo) (id n : Number) (cell : Cell) → what ≡ Put row id n cell → ⊥) → ⊥
other_puts (Share row id want) n h = cc
other_puts (Claim row id how mask want) n h = cc
other_puts (Confirm row id want) n h = cc
other_puts (Put row id m cell) n h = h row id m cell refl
other_puts (Release row id m) n h = cc
other_puts Lose n h = cc
other_puts Fit n h = cc

pub no-other-put : (bay : Bay) (ask : Ask) → NeedWrite ≡ verdict_of bay ask → ((row : RowNo) (id n : Number) (cell : Cell) → ask.what ≡ Put row id n cell → ⊥) → ⊥
no-other-put bay ask v h = other_puts ask.what (needs-write bay ask (sym v)).1 h
