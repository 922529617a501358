-- What holds of every outcome of the rule, request by request.
use Rattle.std.proofs.Common.{◌≡◌, ℕ, Bool, true, false, if◌then◌else◌, not, nat_lt, find, Option, Some, None, is_some, refl, sym, ap, ◌∙◌}
use Rattle.raid_base.specs.declared.cells.Cell.{Cell}
use Rattle.raid_base.specs.declared.numbers.Number.{Number}
use Rattle.raid_base.specs.declared.numbers.RowNo.{RowNo}
use Rattle.raid_base.specs.declared.messages.Mode.{Mode}
use Rattle.raid_base.specs.declared.messages.Mode.TheVariants.{Lock, Order}
use Rattle.raid_base.specs.declared.messages.How.{How}
use Rattle.raid_base.specs.declared.messages.How.TheVariants.{Plain, Seize, Mend}
use Rattle.raid_base.specs.declared.messages.Note.{Note}
use Rattle.raid_base.specs.declared.messages.Ask.{Ask}
use Rattle.raid_base.specs.declared.messages.Reply.{Reply}
use Rattle.raid_base.specs.declared.messages.Reply.TheVariants.{Busy, Late, Young, Missing, Held, NoNote, Done, Fault}
use Rattle.raid_base.specs.declared.messages.Request.{Request}
use Rattle.raid_base.specs.declared.messages.Request.TheVariants.{Share, Claim, Confirm, Put, Release}
use Rattle.raid_base.specs.Numbers.{greater}
use Rattle.raid_base.specs.Fits.{fits}
use Rattle.raid_base.specs.Replies.{is_fault}
use Rattle.slot_rules.specs.declared.Reader.{Reader}
use Rattle.slot_rules.specs.Slots.{Slot, Bay, reader_note}
use Rattle.slot_rules.specs.Rules.{SlotOutcome, keeps, reads, wanted_cell, granted, slot_floor, missing_floor, is_reader, note_id, is_same_host, may_seize, young_note, share_lock, share_granted_lock, share_order, share_unnoted, share_granted_order, share_by, share_at, share_rule, claim_granted, claim_noted, claim_at, is_late, seize_granted, seize_unread, seize_blank, seize_noted, claim_rule, confirm_missing, confirm_rule, put_done, put_rule, release_reader, release_rule}
use Rattle.slot_rules.specs.declared.slot.Verdict.TheVariants.{NeedRead, NeedWrite}
use Rattle.slot_rules.specs.Serving.{need}
use Rattle.slot_rules.specs.Laws.{is_refused, refused_slot}

-- what holds of an outcome, whether the store fails or not
pub record Good (empty : Bool) (what : Request) (slot : Slot) (outcome : Bool → SlotOutcome) : Type 0 where
  pub works : is_fault (outcome false).reply ≡ false
  pub failed : is_fault (outcome true).reply ≡ true → outcome true ≡ keeps slot Fault
  pub spared : is_fault (outcome true).reply ≡ false → outcome true ≡ outcome false
  pub fitting : (fails : Bool) → fits what (outcome fails).reply ≡ true
  pub kept : (fails : Bool) → is_refused (outcome fails).reply ≡ true → (outcome fails).slot ≡ refused_slot empty what (outcome fails).reply slot
  pub seen : is_fault (outcome true).reply ≡ true → need what ≡ NeedRead → is_some slot.cell ≡ true

good-said : (empty : Bool) (what : Request) (slot : Slot) (reply : Reply) → is_fault reply ≡ false → fits what reply ≡ true → refused_slot empty what reply slot ≡ slot →
    Good empty what slot (λ _. keeps slot reply)
good-said empty what slot reply f t r = record {
  works = f;
  failed = λ h. absurd (let bad : true ≡ false = sym h ∙ f in cc);
  spared = λ h. refl;
  fitting = λ fails. t;
  kept = λ fails h. sym r;
  seen = λ h n. absurd (let bad : true ≡ false = sym h ∙ f in cc);
}

good-done : (empty : Bool) (what : Request) (slot : Slot) (o : SlotOutcome) → is_fault o.reply ≡ false → fits what o.reply ≡ true → is_refused o.reply ≡ false →
    Good empty what slot (λ _. o)
good-done empty what slot o f t r = record {
  works = f;
  failed = λ h. absurd (let bad : true ≡ false = sym h ∙ f in cc);
  spared = λ h. refl;
  fitting = λ fails. t;
  kept = λ fails h. absurd (let bad : true ≡ false = sym h ∙ r in cc);
  seen = λ h n. absurd (let bad : true ≡ false = sym h ∙ f in cc);
}

fits_both : (what : Request) (slot : Slot) (o : SlotOutcome) (outcome : Bool → SlotOutcome) → outcome true ≡ keeps slot Fault → outcome false ≡ o →
    fits what Fault ≡ true → fits what o.reply ≡ true → (fails : Bool) → fits what (outcome fails).reply ≡ true
fits_both what slot o outcome y n tf t true = rw y tf
fits_both what slot o outcome y n tf t false = rw n t

kept_both : (empty : Bool) (what : Request) (slot : Slot) (o : SlotOutcome) (outcome : Bool → SlotOutcome) → outcome true ≡ keeps slot Fault → outcome false ≡ o →
    refused_slot empty what Fault slot ≡ slot → is_refused o.reply ≡ false → (fails : Bool) →
    is_refused (outcome fails).reply ≡ true → (outcome fails).slot ≡ refused_slot empty what (outcome fails).reply slot
kept_both empty what slot o outcome y n rf r true h = rw y (sym rf)
kept_both empty what slot o outcome y n rf r false h =
    absurd (let bad : true ≡ false = sym h ∙ ap (λ (x : SlotOutcome). is_refused x.reply) n ∙ r in cc)

-- the store fails, or all is done
good-store : (empty : Bool) (what : Request) (slot : Slot) (o : SlotOutcome) (outcome : Bool → SlotOutcome) → outcome true ≡ keeps slot Fault → outcome false ≡ o →
    is_fault o.reply ≡ false → is_refused o.reply ≡ false → fits what o.reply ≡ true → fits what Fault ≡ true → refused_slot empty what Fault slot ≡ slot →
    (need what ≡ NeedRead → is_some slot.cell ≡ true) → Good empty what slot outcome
good-store empty what slot o outcome y n f r t tf rf there = record {
  works = ap (λ (x : SlotOutcome). is_fault x.reply) n ∙ f;
  failed = λ h. y;
  spared = λ h. absurd (let bad : true ≡ false = sym (ap (λ (x : SlotOutcome). is_fault x.reply) y) ∙ h in cc);
  fitting = fits_both what slot o outcome y n tf t;
  kept = kept_both empty what slot o outcome y n rf r;
  seen = λ h. there;
}

-- the same whether the store fails or not
good-same : (empty : Bool) (what : Request) (slot : Slot) (o : SlotOutcome) (outcome : Bool → SlotOutcome) → ((fails : Bool) → outcome fails ≡ o) →
    is_fault o.reply ≡ false → is_refused o.reply ≡ false → fits what o.reply ≡ true → Good empty what slot outcome
good-same empty what slot o outcome all f r t = record {
  works = ap (λ (x : SlotOutcome). is_fault x.reply) (all false) ∙ f;
  failed = λ h. absurd (let bad : true ≡ false = sym h ∙ ap (λ (x : SlotOutcome). is_fault x.reply) (all true) ∙ f in cc);
  spared = λ h. all true ∙ sym (all false);
  fitting = λ fails. ap (λ (x : SlotOutcome). fits what x.reply) (all fails) ∙ t;
  kept = λ fails h. absurd (let bad : true ≡ false = sym h ∙ ap (λ (x : SlotOutcome). is_refused x.reply) (all fails) ∙ r in cc);
  seen = λ h n. absurd (let bad : true ≡ false = sym h ∙ ap (λ (x : SlotOutcome). is_fault x.reply) (all true) ∙ f in cc);
}

good-read_by : (empty : Bool) (what : Request) (slot : Slot) (want : Bool) (o : SlotOutcome) (shown : Option Cell) → wanted_cell want slot ≡ shown →
    is_fault o.reply ≡ false → is_refused o.reply ≡ false → fits what o.reply ≡ true → (want ≡ true → fits what Fault ≡ true) → refused_slot empty what Fault slot ≡ slot →
    Good empty what slot (λ fails. reads want fails slot o)
good-read_by empty what slot want o None e f r t tf rf = good-same empty what slot o (λ fails. reads want fails slot o) (λ fails. rw e refl) f r t
good-read_by empty what slot true o (Some cell) e f r t tf rf = good-store empty what slot o (λ fails. reads true fails slot o) (rw e refl) (rw e refl) f r t (tf refl) rf (λ n. ap (λ c. is_some c) e)
good-read_by empty what slot false o (Some cell) e f r t tf rf = absurd (let bad : None ≡ Some cell = e in cc)

-- a cell is shown
good-read : (empty : Bool) (what : Request) (slot : Slot) (want : Bool) (o : SlotOutcome) →
    is_fault o.reply ≡ false → is_refused o.reply ≡ false → fits what o.reply ≡ true → (want ≡ true → fits what Fault ≡ true) → refused_slot empty what Fault slot ≡ slot →
    Good empty what slot (λ fails. reads want fails slot o)
good-read empty what slot want o = good-read_by empty what slot want o _ refl

good-if : (empty : Bool) (what : Request) (slot : Slot) (f g : Bool → SlotOutcome) (b : Bool) → Good empty what slot f → Good empty what slot g →
    Good empty what slot (λ fails. if b then f fails else g fails)
good-if empty what slot f g true a c = a
good-if empty what slot f g false a c = c

-- Share
good-share_lock : (bay : Bay) (slot : Slot) (ask : Ask) (row : RowNo) (id : Number) (want : Bool) (note : Option Note) (reader : Option Reader) →
    fits (Share row id want) (granted bay slot want None) ≡ true →
    Good bay.empty (Share row id want) slot (λ fails. share_lock bay slot ask id want fails note reader)
good-share_lock bay slot ask row id want (Some note) reader t = good-said _ _ _ (Busy note) refl refl refl
good-share_lock bay slot ask row id want None (Some reader) t = good-said _ _ _ (Busy (reader_note reader)) refl refl refl
good-share_lock bay slot ask row id want None None t = good-read _ _ slot want (share_granted_lock bay slot ask id want) refl refl t (λ w. w) refl

good-share_unnoted : (bay : Bay) (slot : Slot) (row : RowNo) (id : Number) (want : Bool) → fits (Share row id want) (granted bay slot want None) ≡ true →
    Good bay.empty (Share row id want) slot (λ fails. share_unnoted bay slot id want fails)
good-share_unnoted bay slot row id want t =
    good-if bay.empty (Share row id want) slot (λ _. keeps slot (Late slot.write_no)) (λ fails. reads want fails slot (share_granted_order bay slot id want)) (nat_lt id.0 slot.write_no.0)
    (good-said _ _ _ (Late slot.write_no) refl refl refl) (good-read _ _ slot want (share_granted_order bay slot id want) refl refl t (λ w. w) refl)

good-share_order : (bay : Bay) (slot : Slot) (row : RowNo) (id : Number) (want : Bool) (note : Option Note) → fits (Share row id want) (granted bay slot want None) ≡ true →
    Good bay.empty (Share row id want) slot (λ fails. share_order bay slot id want fails note)
good-share_order bay slot row id want None t = good-share_unnoted bay slot row id want t
good-share_order bay slot row id want (Some note) t =
    good-if bay.empty (Share row id want) slot (λ _. keeps slot (Busy note)) (λ fails. share_unnoted bay slot id want fails) (nat_lt note.origin.0 id.0)
    (good-said _ _ _ (Busy note) refl refl refl) (good-share_unnoted bay slot row id want t)

good-share_by : (mode : Mode) (bay : Bay) (slot : Slot) (ask : Ask) (row : RowNo) (id : Number) (want : Bool) → fits (Share row id want) (granted bay slot want None) ≡ true →
    Good bay.empty (Share row id want) slot (λ fails. share_by mode bay slot ask id want fails)
good-share_by Lock bay slot ask row id want t = good-share_lock bay slot ask row id want slot.note (find (is_same_host ask id) slot.readers) t
good-share_by Order bay slot ask row id want t = good-share_order bay slot row id want slot.note t

fits_granted : (bay : Bay) (slot : Slot) (row : RowNo) (id : Number) (cell : Cell) (want : Bool) → slot.cell ≡ Some cell → fits (Share row id want) (granted bay slot want None) ≡ true
fits_granted bay slot row id cell true e = rw e refl
fits_granted bay slot row id cell false e = refl

good-share_at : (bay : Bay) (slot : Slot) (ask : Ask) (row : RowNo) (id : Number) (want empty : Bool) (cell : Option Cell) → slot.cell ≡ cell →
    Good bay.empty (Share row id want) slot (λ fails. share_at bay slot ask id want fails (if empty then Some bay.high else slot_floor slot cell))
good-share_at bay slot ask row id want true cell e = good-said _ _ _ (Missing bay.high) refl refl refl
good-share_at bay slot ask row id want false None e = good-said _ _ _ (Missing slot.write_no) refl refl refl
good-share_at bay slot ask row id want false (Some cell) e = good-share_by bay.mode bay slot ask row id want (fits_granted bay slot row id cell want e)

pub good-share : (bay : Bay) (slot : Slot) (ask : Ask) (row : RowNo) (id : Number) (want : Bool) →
    Good bay.empty (Share row id want) slot (λ fails. share_rule bay slot ask id want fails)
good-share bay slot ask row id want = good-share_at bay slot ask row id want bay.empty slot.cell refl

-- Claim, plain or to mend
good-claim_noted : (bay : Bay) (slot : Slot) (ask : Ask) (row : RowNo) (id : Number) (mask : ℕ) (want : Bool) (note : Option Note) (reader : Option Reader) →
    fits (Claim row id Plain mask want) (granted bay slot want None) ≡ true →
    Good bay.empty (Claim row id Plain mask want) slot (λ fails. claim_noted bay slot ask id Plain mask want fails note reader)
good-claim_noted bay slot ask row id mask want (Some note) reader t = good-said _ _ _ (Busy note) refl refl refl
good-claim_noted bay slot ask row id mask want None (Some reader) t = good-said _ _ _ (Busy (reader_note reader)) refl refl refl
good-claim_noted bay slot ask row id mask want None None t =
    good-if bay.empty (Claim row id Plain mask want) slot (λ _. keeps slot (Late (greater slot.read_no slot.write_no))) (λ fails. reads want fails slot (claim_granted bay slot ask id mask want)) (is_late Plain bay.mode id slot)
    (good-said _ _ _ (Late (greater slot.read_no slot.write_no)) refl refl refl) (good-read _ _ slot want (claim_granted bay slot ask id mask want) refl refl t (λ w. w) refl)

good-claim_at : (bay : Bay) (slot : Slot) (ask : Ask) (row : RowNo) (id : Number) (mask : ℕ) (want empty : Bool) (cell : Option Cell) → slot.cell ≡ cell →
    Good bay.empty (Claim row id Plain mask want) slot (λ fails. claim_at bay slot ask id Plain mask want fails (if empty then Some bay.high else slot_floor slot cell))
good-claim_at bay slot ask row id mask want true cell e = good-said _ _ _ (Missing bay.high) refl refl refl
good-claim_at bay slot ask row id mask want false None e = good-said _ _ _ (Missing slot.write_no) refl refl refl
good-claim_at bay slot ask row id mask want false (Some cell) e =
    good-claim_noted bay slot ask row id mask want slot.note (find (λ reader. not (is_reader id reader)) slot.readers) (fits_granted bay slot row id cell want e)

fits_mended : (bay : Bay) (slot : Slot) (row : RowNo) (id : Number) (mask : ℕ) (want : Bool) → fits (Claim row id Mend mask want) (granted bay slot want None) ≡ true
fits_mended bay slot row id mask true = refl
fits_mended bay slot row id mask false = refl

good-mend_noted : (bay : Bay) (slot : Slot) (ask : Ask) (row : RowNo) (id : Number) (mask : ℕ) (want : Bool) (note : Option Note) (reader : Option Reader) →
    Good bay.empty (Claim row id Mend mask want) slot (λ fails. claim_noted bay slot ask id Mend mask want fails note reader)
good-mend_noted bay slot ask row id mask want (Some note) reader = good-said _ _ _ (Busy note) refl refl refl
good-mend_noted bay slot ask row id mask want None (Some reader) = good-said _ _ _ (Busy (reader_note reader)) refl refl refl
good-mend_noted bay slot ask row id mask want None None = good-read _ _ slot want (claim_granted bay slot ask id mask want) refl refl (fits_mended bay slot row id mask want) (λ w. w) refl

good-mend_at : (bay : Bay) (slot : Slot) (ask : Ask) (row : RowNo) (id : Number) (mask : ℕ) (want empty : Bool) →
    Good bay.empty (Claim row id Mend mask want) slot (λ fails. claim_at bay slot ask id Mend mask want fails (if empty then Some bay.high else None))
good-mend_at bay slot ask row id mask want true = good-said _ _ _ (Missing bay.high) refl refl refl
good-mend_at bay slot ask row id mask want false = good-mend_noted bay slot ask row id mask want slot.note (find (λ reader. not (is_reader id reader)) slot.readers)

-- Claim by seizure
fits_seized : (bay : Bay) (slot : Slot) (row : RowNo) (id : Number) (mask : ℕ) (cell : Cell) (want : Bool) (seized : Option Note) → slot.cell ≡ Some cell →
    fits (Claim row id Seize mask want) (granted bay slot want seized) ≡ true
fits_seized bay slot row id mask cell true seized e = rw e refl
fits_seized bay slot row id mask cell false seized e = refl

good-seized : (bay : Bay) (slot : Slot) (ask : Ask) (row : RowNo) (id : Number) (mask : ℕ) (want : Bool) (cell : Cell) (note : Option Note) → slot.cell ≡ Some cell →
    Good bay.empty (Claim row id Seize mask want) slot (λ fails. reads want fails slot (seize_granted bay slot ask id mask want note))
good-seized bay slot ask row id mask want cell None e = good-read _ _ slot want (seize_granted bay slot ask id mask want None) refl refl (fits_seized bay slot row id mask cell want None e) (λ w. w) refl
good-seized bay slot ask row id mask want cell (Some note) e = good-read _ _ slot want (seize_granted bay slot ask id mask want (Some note)) refl refl (fits_seized bay slot row id mask cell want (Some note) e) (λ w. w) refl

good-seize_unread : (bay : Bay) (slot : Slot) (ask : Ask) (row : RowNo) (id : Number) (mask : ℕ) (want : Bool) (cell : Cell) (reader : Option Reader) → slot.cell ≡ Some cell →
    Good bay.empty (Claim row id Seize mask want) slot (λ fails. seize_unread bay slot ask id mask want fails reader)
good-seize_unread bay slot ask row id mask want cell (Some reader) e = good-said _ _ _ (Young (reader_note reader)) refl refl refl
good-seize_unread bay slot ask row id mask want cell None e = good-seized bay slot ask row id mask want cell slot.note e

good-seize_blank : (bay : Bay) (slot : Slot) (row : RowNo) (id : Number) (mask : ℕ) (want : Bool) → slot.cell ≡ None → bay.empty ≡ false →
    Good bay.empty (Claim row id Seize mask want) slot (λ _. record { reply = Missing slot.write_no; slot = record slot { note = None } })
good-seize_blank bay slot row id mask want e f = record {
  works = refl;
  failed = λ h. absurd (let bad : false ≡ true = h in cc);
  spared = λ h. refl;
  fitting = λ fails. refl;
  kept = λ fails h. rw (f, e) refl;
  seen = λ h n. absurd (let bad : false ≡ true = h in cc);
}

good-seize_there : (bay : Bay) (slot : Slot) (ask : Ask) (row : RowNo) (id : Number) (mask : ℕ) (want : Bool) (cell : Option Cell) (reader : Option Reader) → slot.cell ≡ cell → bay.empty ≡ false →
    Good bay.empty (Claim row id Seize mask want) slot (λ fails. seize_blank slot (slot_floor slot cell) (seize_unread bay slot ask id mask want fails reader))
good-seize_there bay slot ask row id mask want None reader e f = good-seize_blank bay slot row id mask want e f
good-seize_there bay slot ask row id mask want (Some cell) reader e f = good-seize_unread bay slot ask row id mask want cell reader e

good-seize_noted : (bay : Bay) (slot : Slot) (ask : Ask) (row : RowNo) (id : Number) (mask : ℕ) (want : Bool) (young : Option Note) → bay.empty ≡ false →
    Good bay.empty (Claim row id Seize mask want) slot (λ fails. seize_noted bay slot ask id mask want fails young)
good-seize_noted bay slot ask row id mask want (Some note) f = good-said _ _ _ (Young note) refl refl refl
good-seize_noted bay slot ask row id mask want None f =
    good-seize_there bay slot ask row id mask want slot.cell (find (λ reader. not (may_seize bay ask reader.host reader.moment)) slot.readers) refl f

refused_empty : (empty : Bool) (slot : Slot) (row : RowNo) (id : Number) (mask : ℕ) (want : Bool) (n : Number) → empty ≡ true → refused_slot empty (Claim row id Seize mask want) (Missing n) slot ≡ slot
refused_empty empty slot row id mask want n e = rw e refl

good-seize_by : (bay : Bay) (slot : Slot) (ask : Ask) (row : RowNo) (id : Number) (mask : ℕ) (want empty : Bool) → bay.empty ≡ empty →
    Good bay.empty (Claim row id Seize mask want) slot (λ fails. if empty then keeps slot (Missing bay.high) else seize_noted bay slot ask id mask want fails (young_note bay ask slot.note))
good-seize_by bay slot ask row id mask want true e = good-said _ _ _ (Missing bay.high) refl refl (refused_empty bay.empty slot row id mask want bay.high e)
good-seize_by bay slot ask row id mask want false e = good-seize_noted bay slot ask row id mask want (young_note bay ask slot.note) e

pub good-claim : (bay : Bay) (slot : Slot) (ask : Ask) (row : RowNo) (id : Number) (how : How) (mask : ℕ) (want : Bool) →
    Good bay.empty (Claim row id how mask want) slot (λ fails. claim_rule how bay slot ask id mask want fails)
good-claim bay slot ask row id Plain mask want = good-claim_at bay slot ask row id mask want bay.empty slot.cell refl
good-claim bay slot ask row id Mend mask want = good-mend_at bay slot ask row id mask want bay.empty
good-claim bay slot ask row id Seize mask want = good-seize_by bay slot ask row id mask want bay.empty refl

-- Confirm
good-confirm_missing : (bay : Bay) (slot : Slot) (row : RowNo) (id : Number) (want : Bool) (floor : Option Number) →
    Good bay.empty (Confirm row id want) slot (λ _. confirm_missing bay slot floor)
good-confirm_missing bay slot row id want (Some floor) = good-said _ _ _ (Missing floor) refl refl refl
good-confirm_missing bay slot row id want None = good-said _ _ _ (NoNote bay.life) refl refl refl

fits_held : (slot : Slot) (row : RowNo) (id : Number) (want : Bool) → fits (Confirm row id want) (Held (wanted_cell want slot)) ≡ true
fits_held slot row id true = refl
fits_held slot row id false = refl

pub good-confirm : (bay : Bay) (slot : Slot) (row : RowNo) (id : Number) (want : Bool) →
    Good bay.empty (Confirm row id want) slot (λ fails. confirm_rule bay slot id want fails)
good-confirm bay slot row id want =
    good-if bay.empty (Confirm row id want) slot (λ fails. reads want fails slot (keeps slot (Held (wanted_cell want slot)))) (λ _. confirm_missing bay slot (missing_floor bay slot)) (note_id slot.note id)
    (good-read _ _ slot want (keeps slot (Held (wanted_cell want slot))) refl refl (fits_held slot row id want) (λ w. w) refl)
    (good-confirm_missing bay slot row id want (missing_floor bay slot))

-- Put
pub good-put : (bay : Bay) (slot : Slot) (row : RowNo) (id n : Number) (cell : Cell) →
    Good bay.empty (Put row id n cell) slot (λ fails. put_rule bay slot id n cell fails)
good-put bay slot row id n cell =
    good-if bay.empty (Put row id n cell) slot (λ fails. if fails then keeps slot Fault else put_done slot id n cell) (λ _. keeps slot (NoNote bay.life)) (note_id slot.note id)
    (good-store _ _ slot (put_done slot id n cell) (λ fails. if fails then keeps slot Fault else put_done slot id n cell) refl refl refl refl refl refl refl (λ n. absurd (let bad : NeedWrite ≡ NeedRead = n in cc)))
    (good-said _ _ _ (NoNote bay.life) refl refl refl)

-- Release
good-release_reader : (bay : Bay) (slot : Slot) (row : RowNo) (id : Number) (n : Option Number) (reader : Option Reader) →
    Good bay.empty (Release row id n) slot (λ _. release_reader bay slot id n reader)
good-release_reader bay slot row id n None = good-said _ _ _ (NoNote bay.life) refl refl refl
good-release_reader bay slot row id n (Some reader) = good-done _ _ _ (release_reader bay slot id n (Some reader)) refl refl refl

pub good-release : (bay : Bay) (slot : Slot) (row : RowNo) (id : Number) (n : Option Number) →
    Good bay.empty (Release row id n) slot (λ _. release_rule bay slot id n)
good-release bay slot row id n =
    good-if bay.empty (Release row id n) slot (λ _. record { reply = Done; slot = record slot { note = None } }) (λ _. release_reader bay slot id n (find (is_reader id) slot.readers)) (note_id slot.note id)
    (good-done _ _ slot (record { reply = Done; slot = record slot { note = None } }) refl refl refl)
    (good-release_reader bay slot row id n (find (is_reader id) slot.readers))
