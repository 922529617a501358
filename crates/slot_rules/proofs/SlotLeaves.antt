-- What a request leaves of a blank slot.
use Rattle.std.proofs.Common.{◌≡◌, ℕ, Bool, true, false, if◌then◌else◌, ◌&&◌, not, List, [], filter, find, Option, Some, None, is_some, refl, sym, ap, ◌∙◌}
use Rattle.raid_base.specs.declared.cells.Cell.{Cell}
use Rattle.raid_base.specs.declared.numbers.Number.{Number}
use Rattle.raid_base.specs.declared.messages.Mode.{Mode}
use Rattle.raid_base.specs.declared.messages.Mode.TheVariants.{Lock, Order}
use Rattle.raid_base.specs.declared.messages.How.{How}
use Rattle.raid_base.specs.declared.messages.How.TheVariants.{Plain, Seize, Mend}
use Rattle.raid_base.specs.declared.messages.Note.{Note}
use Rattle.raid_base.specs.declared.messages.Ask.{Ask}
use Rattle.raid_base.specs.declared.messages.Reply.TheVariants.{Missing, NoNote, Done, Fault}
use Rattle.raid_base.specs.declared.messages.Request.{Request}
use Rattle.raid_base.specs.declared.messages.Request.TheVariants.{Share, Claim, Confirm, Put, Release, Lose, Fit}
use Rattle.slot_rules.specs.declared.Reader.{Reader}
use Rattle.slot_rules.specs.Slots.{Slot, Bay}
use Rattle.slot_rules.specs.Rules.{SlotOutcome, keeps, reads, wanted_cell, slot_floor, missing_floor, note_id, is_reader, is_same_host, is_late, young_note, share_lock, share_order, share_unnoted, share_by, share_at, claim_noted, claim_at, claim_granted, seize_granted, seize_unread, seize_blank, seize_noted, claim_rule, confirm_missing, put_done, release_reader}
use Rattle.slot_rules.specs.Serving.{slot_rule}

-- a slot with a cell has one still; one without, and without readers, has no readers still, and keeps its numbers unless it is
-- put; and without a device a slot on which nothing is open stays as it is
pub record Leaves (empty : Bool) (slot left : Slot) : Type 0 where
  pub there : is_some slot.cell ≡ true → is_some left.cell ≡ true
  pub alone : is_some slot.cell ≡ false → slot.readers ≡ [] → left.readers ≡ []
  pub numbers : is_some slot.cell ≡ false → slot.readers ≡ [] → is_some left.cell ≡ false → (left.read_no ≡ slot.read_no) × (left.write_no ≡ slot.write_no) × (left.last ≡ slot.last)
  pub gone : empty ≡ true → is_some slot.cell ≡ false → slot.note ≡ None → slot.readers ≡ [] → left ≡ slot

leaves_kept : (empty : Bool) (slot : Slot) → Leaves empty slot slot
leaves_kept empty slot = record { there = λ h. h; alone = λ h r. r; numbers = λ h r n. (refl, refl, refl); gone = λ e h n r. refl }

-- a slot that has a cell, and keeps it
leaves_there : (empty : Bool) (slot left : Slot) (cell : Cell) → slot.cell ≡ Some cell → left.cell ≡ slot.cell → Leaves empty slot left
leaves_there empty slot left cell c same =
    let some : is_some slot.cell ≡ true = ap (λ (x : Option Cell). is_some x) c in
    record {
      there = λ h. ap (λ (x : Option Cell). is_some x) same ∙ h;
      alone = λ h r. absurd (let bad : true ≡ false = sym some ∙ h in cc);
      numbers = λ h r n. absurd (let bad : true ≡ false = sym some ∙ h in cc);
      gone = λ e h n r. absurd (let bad : true ≡ false = sym some ∙ h in cc);
    }

-- the same numbers, where there is a device
leaves_noted : (empty : Bool) (slot left : Slot) → empty ≡ false → left.cell ≡ slot.cell → left.read_no ≡ slot.read_no → left.write_no ≡ slot.write_no → left.last ≡ slot.last →
    (slot.readers ≡ [] → left.readers ≡ []) → Leaves empty slot left
leaves_noted empty slot left full c a b d r = record {
  there = λ h. ap (λ (x : Option Cell). is_some x) c ∙ h;
  alone = λ h e. r e;
  numbers = λ h e n. (a, b, d);
  gone = λ e h n x. absurd (let bad : true ≡ false = sym e ∙ full in cc);
}

leaves_if : (empty : Bool) (slot : Slot) (o p : SlotOutcome) (b : Bool) → Leaves empty slot o.slot → Leaves empty slot p.slot → Leaves empty slot (if b then o else p).slot
leaves_if empty slot o p true x y = x
leaves_if empty slot o p false x y = y

leaves_read : (empty : Bool) (slot : Slot) (want fails : Bool) (o : SlotOutcome) → Leaves empty slot o.slot → Leaves empty slot (reads want fails slot o).slot
leaves_read empty slot want fails o x = leaves_if empty slot _ o (is_some (wanted_cell want slot) && fails) (leaves_kept empty slot) x

leaves_share_lock : (bay : Bay) (slot : Slot) (ask : Ask) (id : Number) (want fails : Bool) (cell : Cell) (note : Option Note) (reader : Option Reader) → slot.cell ≡ Some cell →
    Leaves bay.empty slot (share_lock bay slot ask id want fails note reader).slot
leaves_share_lock bay slot ask id want fails cell (Some note) reader c = leaves_kept bay.empty slot
leaves_share_lock bay slot ask id want fails cell None (Some reader) c = leaves_kept bay.empty slot
leaves_share_lock bay slot ask id want fails cell None None c = leaves_read bay.empty slot want fails _ (leaves_there bay.empty slot _ cell c refl)

leaves_share_unnoted : (bay : Bay) (slot : Slot) (id : Number) (want fails : Bool) (cell : Cell) → slot.cell ≡ Some cell → Leaves bay.empty slot (share_unnoted bay slot id want fails).slot
leaves_share_unnoted bay slot id want fails cell c =
    leaves_if bay.empty slot _ _ _ (leaves_kept bay.empty slot) (leaves_read bay.empty slot want fails _ (leaves_there bay.empty slot _ cell c refl))

leaves_share_order : (bay : Bay) (slot : Slot) (id : Number) (want fails : Bool) (cell : Cell) (note : Option Note) → slot.cell ≡ Some cell →
    Leaves bay.empty slot (share_order bay slot id want fails note).slot
leaves_share_order bay slot id want fails cell None c = leaves_share_unnoted bay slot id want fails cell c
leaves_share_order bay slot id want fails cell (Some note) c = leaves_if bay.empty slot _ _ _ (leaves_kept bay.empty slot) (leaves_share_unnoted bay slot id want fails cell c)

leaves_share_by : (mode : Mode) (bay : Bay) (slot : Slot) (ask : Ask) (id : Number) (want fails : Bool) (cell : Cell) → slot.cell ≡ Some cell →
    Leaves bay.empty slot (share_by mode bay slot ask id want fails).slot
leaves_share_by Lock bay slot ask id want fails cell c = leaves_share_lock bay slot ask id want fails cell slot.note (find (is_same_host ask id) slot.readers) c
leaves_share_by Order bay slot ask id want fails cell c = leaves_share_order bay slot id want fails cell slot.note c

leaves_share_at : (bay : Bay) (slot : Slot) (ask : Ask) (id : Number) (want fails empty : Bool) (cell : Option Cell) → slot.cell ≡ cell →
    Leaves bay.empty slot (share_at bay slot ask id want fails (if empty then Some bay.high else slot_floor slot cell)).slot
leaves_share_at bay slot ask id want fails true cell c = leaves_kept bay.empty slot
leaves_share_at bay slot ask id want fails false None c = leaves_kept bay.empty slot
leaves_share_at bay slot ask id want fails false (Some cell) c = leaves_share_by bay.mode bay slot ask id want fails cell c

-- none of no readers
other_none : (p : Reader → Bool) (xs : List Reader) → xs ≡ [] → filter p xs ≡ []
other_none p xs e = ap (λ (ys : List Reader). filter p ys) e

leaves_claim_noted : (bay : Bay) (slot : Slot) (ask : Ask) (id : Number) (how : How) (mask : ℕ) (want fails : Bool) (note : Option Note) (reader : Option Reader) → bay.empty ≡ false →
    Leaves bay.empty slot (claim_noted bay slot ask id how mask want fails note reader).slot
leaves_claim_noted bay slot ask id how mask want fails (Some note) reader e = leaves_kept bay.empty slot
leaves_claim_noted bay slot ask id how mask want fails None (Some reader) e = leaves_kept bay.empty slot
leaves_claim_noted bay slot ask id how mask want fails None None e =
    leaves_if bay.empty slot _ _ (is_late how bay.mode id slot) (leaves_kept bay.empty slot)
    (leaves_read bay.empty slot want fails (claim_granted bay slot ask id mask want)
    (leaves_noted bay.empty slot (claim_granted bay slot ask id mask want).slot e refl refl refl refl (other_none (λ reader. not (is_reader id reader)) slot.readers)))

leaves_plain_at : (bay : Bay) (slot : Slot) (ask : Ask) (id : Number) (mask : ℕ) (want fails empty : Bool) (cell : Option Cell) → slot.cell ≡ cell → bay.empty ≡ empty →
    Leaves bay.empty slot (claim_at bay slot ask id Plain mask want fails (if empty then Some bay.high else slot_floor slot cell)).slot
leaves_plain_at bay slot ask id mask want fails true cell c e = leaves_kept bay.empty slot
leaves_plain_at bay slot ask id mask want fails false None c e = leaves_kept bay.empty slot
leaves_plain_at bay slot ask id mask want fails false (Some cell) c e = leaves_claim_noted bay slot ask id Plain mask want fails slot.note _ e

leaves_mend_at : (bay : Bay) (slot : Slot) (ask : Ask) (id : Number) (mask : ℕ) (want fails empty : Bool) → bay.empty ≡ empty →
    Leaves bay.empty slot (claim_at bay slot ask id Mend mask want fails (if empty then Some bay.high else None)).slot
leaves_mend_at bay slot ask id mask want fails true e = leaves_kept bay.empty slot
leaves_mend_at bay slot ask id mask want fails false e = leaves_claim_noted bay slot ask id Mend mask want fails slot.note _ e

leaves_seized : (bay : Bay) (slot : Slot) (ask : Ask) (id : Number) (mask : ℕ) (want : Bool) (note : Option Note) → bay.empty ≡ false → Leaves bay.empty slot (seize_granted bay slot ask id mask want note).slot
leaves_seized bay slot ask id mask want None e = leaves_noted bay.empty slot _ e refl refl refl refl (λ r. refl)
leaves_seized bay slot ask id mask want (Some note) e = leaves_noted bay.empty slot _ e refl refl refl refl (λ r. refl)

leaves_seize_unread : (bay : Bay) (slot : Slot) (ask : Ask) (id : Number) (mask : ℕ) (want fails : Bool) (reader : Option Reader) → bay.empty ≡ false →
    Leaves bay.empty slot (seize_unread bay slot ask id mask want fails reader).slot
leaves_seize_unread bay slot ask id mask want fails (Some reader) e = leaves_kept bay.empty slot
leaves_seize_unread bay slot ask id mask want fails None e = leaves_read bay.empty slot want fails _ (leaves_seized bay slot ask id mask want slot.note e)

leaves_seize_blank : (bay : Bay) (slot : Slot) (floor : Option Number) (o : SlotOutcome) → bay.empty ≡ false → Leaves bay.empty slot o.slot → Leaves bay.empty slot (seize_blank slot floor o).slot
leaves_seize_blank bay slot (Some floor) o e x = leaves_noted bay.empty slot _ e refl refl refl refl (λ r. r)
leaves_seize_blank bay slot None o e x = x

leaves_seize_noted : (bay : Bay) (slot : Slot) (ask : Ask) (id : Number) (mask : ℕ) (want fails : Bool) (note : Option Note) → bay.empty ≡ false →
    Leaves bay.empty slot (seize_noted bay slot ask id mask want fails note).slot
leaves_seize_noted bay slot ask id mask want fails (Some note) e = leaves_kept bay.empty slot
leaves_seize_noted bay slot ask id mask want fails None e = leaves_seize_blank bay slot _ _ e (leaves_seize_unread bay slot ask id mask want fails _ e)

leaves_seize_by : (bay : Bay) (slot : Slot) (ask : Ask) (id : Number) (mask : ℕ) (want fails empty : Bool) → bay.empty ≡ empty →
    Leaves bay.empty slot (if empty then keeps slot (Missing bay.high) else seize_noted bay slot ask id mask want fails (young_note bay ask slot.note)).slot
leaves_seize_by bay slot ask id mask want fails true e = leaves_kept bay.empty slot
leaves_seize_by bay slot ask id mask want fails false e = leaves_seize_noted bay slot ask id mask want fails (young_note bay ask slot.note) e

leaves_claim : (bay : Bay) (slot : Slot) (ask : Ask) (id : Number) (how : How) (mask : ℕ) (want fails : Bool) → Leaves bay.empty slot (claim_rule how bay slot ask id mask want fails).slot
leaves_claim bay slot ask id Plain mask want fails = leaves_plain_at bay slot ask id mask want fails bay.empty slot.cell refl refl
leaves_claim bay slot ask id Mend mask want fails = leaves_mend_at bay slot ask id mask want fails bay.empty refl
leaves_claim bay slot ask id Seize mask want fails = leaves_seize_by bay slot ask id mask want fails bay.empty refl

leaves_confirm_missing : (bay : Bay) (slot : Slot) (floor : Option Number) → Leaves bay.empty slot (confirm_missing bay slot floor).slot
leaves_confirm_missing bay slot (Some floor) = leaves_kept bay.empty slot
leaves_confirm_missing bay slot None = leaves_kept bay.empty slot

no_note : (slot : Slot) (id : Number) → note_id slot.note id ≡ true → slot.note ≡ None → ⊥
no_note slot id e n = let bad : false ≡ true = sym (ap (λ (x : Option Note). note_id x id) n) ∙ e in absurd cc

leaves_put : (bay : Bay) (slot : Slot) (id n : Number) (cell : Cell) (fails b : Bool) → note_id slot.note id ≡ b →
    Leaves bay.empty slot (if b then (if fails then keeps slot Fault else put_done slot id n cell) else keeps slot (NoNote bay.life)).slot
leaves_put bay slot id n cell fails false e = leaves_kept bay.empty slot
leaves_put bay slot id n cell true true e = leaves_kept bay.empty slot
leaves_put bay slot id n cell false true e = record {
  there = λ h. refl;
  alone = λ h r. r;
  numbers = λ h r x. absurd (let bad : true ≡ false = x in cc);
  gone = λ x h none r. absurd (no_note slot id e none);
}

no_reader : (slot : Slot) (id : Number) (reader : Reader) → find (is_reader id) slot.readers ≡ Some reader → slot.readers ≡ [] → ⊥
no_reader slot id reader f r = let bad : None ≡ Some reader = sym (ap (λ (xs : List Reader). find (is_reader id) xs) r) ∙ f in absurd cc

leaves_release_reader : (bay : Bay) (slot : Slot) (id : Number) (n : Option Number) (reader : Option Reader) → find (is_reader id) slot.readers ≡ reader →
    Leaves bay.empty slot (release_reader bay slot id n reader).slot
leaves_release_reader bay slot id n None f = leaves_kept bay.empty slot
leaves_release_reader bay slot id n (Some reader) f = record {
  there = λ h. h;
  alone = λ h r. absurd (no_reader slot id reader f r);
  numbers = λ h r x. absurd (no_reader slot id reader f r);
  gone = λ x h none r. absurd (no_reader slot id reader f r);
}

leaves_release : (bay : Bay) (slot : Slot) (id : Number) (n : Option Number) (b : Bool) → note_id slot.note id ≡ b →
    Leaves bay.empty slot (if b then record { reply = Done; slot = record slot { note = None } } else release_reader bay slot id n (find (is_reader id) slot.readers)).slot
leaves_release bay slot id n true e = record {
  there = λ h. h;
  alone = λ h r. r;
  numbers = λ h r x. (refl, refl, refl);
  gone = λ x h none r. absurd (no_note slot id e none);
}
leaves_release bay slot id n false e = leaves_release_reader bay slot id n _ refl

pub leaves : (bay : Bay) (slot : Slot) (ask : Ask) (fails : Bool) (what : Request) → Leaves bay.empty slot (slot_rule bay slot ask fails what).slot
leaves bay slot ask fails (Share row id want) = leaves_share_at bay slot ask id want fails bay.empty slot.cell refl
leaves bay slot ask fails (Claim row id how mask want) = leaves_claim bay slot ask id how mask want fails
leaves bay slot ask fails (Confirm row id want) =
    leaves_if bay.empty slot _ _ (note_id slot.note id) (leaves_read bay.empty slot want fails _ (leaves_kept bay.empty slot)) (leaves_confirm_missing bay slot (missing_floor bay slot))
leaves bay slot ask fails (Put row id n cell) = leaves_put bay slot id n cell fails _ refl
leaves bay slot ask fails (Release row id n) = leaves_release bay slot id n _ refl
leaves bay slot ask fails Lose = leaves_kept bay.empty slot
leaves bay slot ask fails Fit = leaves_kept bay.empty slot
