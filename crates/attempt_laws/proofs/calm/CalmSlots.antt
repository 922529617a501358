-- What a slot does with a note while nobody seizes it, and no device is lost.
use Rattle.std.proofs.Common.{◌≡◌, refl, sym, ap, subst, ◌∙◌, ◌==◌, ◌&&◌, not, Bool, true, false, if◌then◌else◌, find, Option, Some, None, IsSome, is_some, ℕ}
use Rattle.std.specs.Prelude.{nat_lt}
use Rattle.std.proofs.lemmas.Bool.Decides.{nat_tests}
use Rattle.std.proofs.Common.{arith}
use Rattle.raid_base.specs.declared.numbers.RowNo.{RowNo}
use Rattle.raid_base.specs.declared.numbers.Number.{Number}
use Rattle.raid_base.specs.declared.messages.Mode.{Mode}
use Rattle.raid_base.specs.declared.messages.Mode.TheVariants.{Lock, Order}
use Rattle.raid_base.specs.declared.messages.How.{How}
use Rattle.raid_base.specs.declared.messages.How.TheVariants.{Plain}
use Rattle.raid_base.specs.declared.messages.Note.{Note}
use Rattle.raid_base.specs.declared.messages.Ask.{Ask}
use Rattle.raid_base.specs.declared.messages.Reply.TheVariants as replies
use Rattle.raid_base.specs.declared.messages.Request.{Request}
use Rattle.raid_base.specs.declared.messages.Request.TheVariants.{Share, Claim, Confirm, Put, Release, Lose, Fit}
use Rattle.raid_base.specs.declared.cells.Cell.{Cell}
use Rattle.raid_base.specs.Numbers.{greater}
use Rattle.raid_base.specs.Replies.{is_fault, grant_of}
use Rattle.slot_rules.specs.declared.Reader.{Reader}
use Rattle.slot_rules.specs.Slots.{Slot, Bay, reader_note}
use Rattle.slot_rules.specs.Rules.{SlotOutcome, keeps, wanted_cell, reads, missing_floor, note_id, is_reader, is_same_host, share_granted_lock, share_lock, share_granted_order, share_unnoted, share_order, share_by, share_at, claim_granted, is_late, claim_free, claim_noted, claim_at, claim_rule, confirm_missing, confirm_rule, put_done, release_reader}
use Rattle.slot_rules.specs.Serving.{slot_rule}

-- its note has this id
abbrev pub IsNoted : Number → Slot → Type 0
IsNoted id slot = note_id slot.note id ≡ true

-- a request that leaves a note of this id
abbrev pub Spares : Number → Request → Type 0
Spares id (Share row by want) = Unit {0}
Spares id (Claim row by how mask want) = how ≡ Plain
Spares id (Confirm row by want) = Unit {0}
Spares id (Put row by n cell) = (by.0 == id.0) ≡ false
Spares id (Release row by n) = (by.0 == id.0) ≡ false
Spares id Lose = ⊥
Spares id Fit = ⊥

module _ (bay : Bay) (slot : Slot) (ask : Ask) (fails : Bool) where
  -- the note stays
  abbrev SameNote : SlotOutcome → Type 0
  SameNote o = o.slot.note ≡ slot.note

  same-if : (b : Bool) (o p : SlotOutcome) → SameNote o → SameNote p → SameNote (if b then o else p)
  same-if true o p x y = x
  same-if false o p x y = y

  same-read : (want : Bool) (o : SlotOutcome) → SameNote o → SameNote (reads want fails slot o)
  same-read want o x = same-if (is_some (wanted_cell want slot) && fails) (keeps slot replies.Fault) o refl x

  module _ (id : Number) (want : Bool) where
    share-locks : (note : Option Note) (other : Option Reader) → SameNote (share_lock bay slot ask id want fails note other)
    share-locks (Some note) other = refl
    share-locks None (Some reader) = refl
    share-locks None None = same-read want (share_granted_lock bay slot ask id want) refl

    share-unnoteds : SameNote (share_unnoted bay slot id want fails)
    share-unnoteds = same-if (nat_lt id.0 slot.write_no.0) (keeps slot (replies.Late slot.write_no)) (reads want fails slot (share_granted_order bay slot id want)) refl
        (same-read want (share_granted_order bay slot id want) refl)

    share-orders : (note : Option Note) → SameNote (share_order bay slot id want fails note)
    share-orders None = share-unnoteds
    share-orders (Some note) = same-if (nat_lt note.origin.0 id.0) (keeps slot (replies.Busy note)) (share_unnoted bay slot id want fails) refl share-unnoteds

    share-bys : (m : Mode) → SameNote (share_by m bay slot ask id want fails)
    share-bys Lock = share-locks slot.note (find (is_same_host ask id) slot.readers)
    share-bys Order = share-orders slot.note

    share-ats : (floor : Option Number) → SameNote (share_at bay slot ask id want fails floor)
    share-ats (Some floor) = refl
    share-ats None = share-bys bay.mode

    confirm-missings : (floor : Option Number) → SameNote (confirm_missing bay slot floor)
    confirm-missings (Some floor) = refl
    confirm-missings None = refl

    confirms : SameNote (confirm_rule bay slot id want fails)
    confirms = same-if (note_id slot.note id) (reads want fails slot (keeps slot (replies.Held (wanted_cell want slot)))) (confirm_missing bay slot (missing_floor bay slot))
        (same-read want (keeps slot (replies.Held (wanted_cell want slot))) refl) (confirm-missings (missing_floor bay slot))

  -- a plain claim of a slot with a note changes nothing
  module _ (id : Number) (mask : ℕ) (want : Bool) where
    claim-noteds : (x : Number) (note : Option Note) (reader : Option Reader) → note_id note x ≡ true → SameNote (claim_noted bay slot ask id Plain mask want fails note reader)
    claim-noteds x (Some note) reader has = refl
    claim-noteds x None reader has = absurd (let bad : false ≡ true = has in cc)

    claim-ats : (x : Number) (floor : Option Number) → IsNoted x slot → SameNote (claim_at bay slot ask id Plain mask want fails floor)
    claim-ats x (Some floor) has = refl
    claim-ats x None has = claim-noteds x slot.note (find (λ reader. not (is_reader id reader)) slot.readers) has

  not-noted : (by x : Number) (note : Option Note) → (by.0 == x.0) ≡ false → note_id note x ≡ true → note_id note by ≡ false
  not-noted by x None apart has = refl
  not-noted by x (Some note) apart has = grind (arith, nat_tests)

  release-readers : (id : Number) (n : Option Number) (found : Option Reader) → SameNote (release_reader bay slot id n found)
  release-readers id n None = refl
  release-readers id n (Some reader) = refl

  stays-same : (x : Number) (what : Request) → Spares x what → IsNoted x slot → SameNote (slot_rule bay slot ask fails what)
  stays-same x (Share row by want) spares has = share-ats by want (missing_floor bay slot)
  stays-same x (Claim row by how mask want) spares has =
      subst (λ (h : How). SameNote (claim_rule h bay slot ask by mask want fails)) (sym spares) (claim-ats by mask want x (missing_floor bay slot) has)
  stays-same x (Confirm row by want) spares has = confirms by want
  stays-same x (Put row by n cell) spares has =
      subst (λ (b : Bool). SameNote (if b then (if fails then keeps slot replies.Fault else put_done slot by n cell) else keeps slot (replies.NoNote bay.life))) (sym (not-noted by x slot.note spares has)) refl
  stays-same x (Release row by n) spares has =
      subst (λ (b : Bool). SameNote (if b then record { reply = replies.Done; slot = record slot { note = None } } else release_reader bay slot by n (find (is_reader by) slot.readers)))
      (sym (not-noted by x slot.note spares has)) (release-readers by n (find (is_reader by) slot.readers))
  stays-same x Lose spares has = absurd spares
  stays-same x Fit spares has = absurd spares

  pub note-stays : (x : Number) (what : Request) → Spares x what → IsNoted x slot → IsNoted x (slot_rule bay slot ask fails what).slot
  note-stays x what spares has = ap (λ (note : Option Note). note_id note x) (stays-same x what spares has) ∙ has

  -- a plain claim that is granted leaves its note
  module _ (row : RowNo) (id : Number) (mask : ℕ) (want : Bool) where
    abbrev Noted : SlotOutcome → Type 0
    Noted o = IsSome (grant_of o.reply) → IsNoted id o.slot

    refused : (o : SlotOutcome) → grant_of o.reply ≡ None → Noted o
    refused o none = λ some. absurd (let bad : false ≡ true = sym (ap is_some none) ∙ some in cc)

    noted-if : (b : Bool) (o p : SlotOutcome) → Noted o → Noted p → Noted (if b then o else p)
    noted-if true o p x y = x
    noted-if false o p x y = y

    granted-noted : Noted (claim_granted bay slot ask id mask want)
    granted-noted = λ some. grind (arith, nat_tests)

    free-noted : Noted (claim_free bay slot ask id Plain mask want fails)
    free-noted = noted-if (is_late Plain bay.mode id slot) (keeps slot (replies.Late (greater slot.read_no slot.write_no))) (reads want fails slot (claim_granted bay slot ask id mask want))
        (refused (keeps slot (replies.Late (greater slot.read_no slot.write_no))) refl)
        (noted-if (is_some (wanted_cell want slot) && fails) (keeps slot replies.Fault) (claim_granted bay slot ask id mask want) (refused (keeps slot replies.Fault) refl) granted-noted)

    noteds : (note : Option Note) (reader : Option Reader) → Noted (claim_noted bay slot ask id Plain mask want fails note reader)
    noteds (Some note) reader = refused (keeps slot (replies.Busy note)) refl
    noteds None (Some reader) = refused (keeps slot (replies.Busy (reader_note reader))) refl
    noteds None None = free-noted

    ats : (floor : Option Number) → Noted (claim_at bay slot ask id Plain mask want fails floor)
    ats (Some floor) = refused (keeps slot (replies.Missing floor)) refl
    ats None = noteds slot.note (find (λ reader. not (is_reader id reader)) slot.readers)

    pub claim-notes : IsSome (grant_of (slot_rule bay slot ask fails (Claim row id Plain mask want)).reply) → IsNoted id (slot_rule bay slot ask fails (Claim row id Plain mask want)).slot
    claim-notes = ats (missing_floor bay slot)

  -- a put under its own note is done, unless the store fails
  pub put-is-done : (row : RowNo) (id n : Number) (cell : Cell) → IsNoted id slot → is_fault (slot_rule bay slot ask fails (Put row id n cell)).reply ≡ false →
      (slot_rule bay slot ask fails (Put row id n cell)).reply ≡ replies.Done
  put-is-done row id n cell has works = noted (note_id slot.note id) has works
    where
      noted : (b : Bool) → b ≡ true → is_fault (if b then (if fails then keeps slot replies.Fault else put_done slot id n cell) else keeps slot (replies.NoNote bay.life)).reply ≡ false →
          (if b then (if fails then keeps slot replies.Fault else put_done slot id n cell) else keeps slot (replies.NoNote bay.life)).reply ≡ replies.Done
      noted false e well = absurd (let bad : false ≡ true = e in cc)
      noted true e well = served fails well
        where
          served : (f : Bool) → is_fault (if f then keeps slot replies.Fault else put_done slot id n cell).reply ≡ false → (if f then keeps slot replies.Fault else put_done slot id n cell).reply ≡ replies.Done
          served true bad = absurd (let no : true ≡ false = bad in cc)
          served false ok = refl
