-- A claim by seizure that is answered leaves its own note, or none.
use Rattle.std.proofs.Common.{◌≡◌, refl, ap, ◌&&◌, not, Bool, true, false, if◌then◌else◌, find, Option, Some, None, IsSome, is_some, ℕ}
use Rattle.raid_base.specs.declared.numbers.Number.{Number}
use Rattle.raid_base.specs.declared.messages.Ask.{Ask}
use Rattle.raid_base.specs.declared.messages.Note.{Note}
use Rattle.raid_base.specs.declared.messages.Reply.TheVariants as replies
use Rattle.raid_base.specs.Replies.{grant_of}
use Rattle.slot_rules.specs.declared.Reader.{Reader}
use Rattle.slot_rules.specs.Slots.{Slot, Bay, reader_note}
use Rattle.slot_rules.specs.Rules.{SlotOutcome, keeps, wanted_cell, slot_floor, may_seize, seize_granted, seize_unread, seize_blank, young_note, seize_noted, seize_rule}
use Rattle.attempt_laws.proofs.rescues.RescueTrees.{is_answer}

module _ (bay : Bay) (slot : Slot) (ask : Ask) (id : Number) (mask : ℕ) (want fails : Bool) where
  -- a note that stands after an answer is the claim's, which was granted
  abbrev Own : SlotOutcome → Type 0
  Own o = is_answer o.reply ≡ true → (note : Note) → o.slot.note ≡ Some note → (note.id ≡ id) × IsSome (grant_of o.reply)

  unanswered : (o : SlotOutcome) → is_answer o.reply ≡ false → Own o
  unanswered o none = λ answer. absurd (let bad : false ≡ true = sym_ none answer in cc)
    where
      sym_ : {b : Bool} → b ≡ false → b ≡ true → false ≡ true
      sym_ e f = cc

  own-if : (b : Bool) (o p : SlotOutcome) → Own o → Own p → Own (if b then o else p)
  own-if true o p x y = x
  own-if false o p x y = y

  granted-own : (old : Option Note) → Own (seize_granted bay slot ask id mask want old)
  granted-own None = λ answer note f.
      let same : record { host = ask.host; id = id; origin = id; mask = mask; moment = ask.moment } ≡ note = cc in
      (ap (λ (x : Note). x.id) (flip same), refl)
    where
      flip : {x y : Note} → x ≡ y → y ≡ x
      flip e = cc
  granted-own (Some old) = λ answer note f.
      let same : record { host = ask.host; id = id; origin = old.origin; mask = old.mask; moment = ask.moment } ≡ note = cc in
      (ap (λ (x : Note). x.id) (flip same), refl)
    where
      flip : {x y : Note} → x ≡ y → y ≡ x
      flip e = cc

  unread-own : (reader : Option Reader) → Own (seize_unread bay slot ask id mask want fails reader)
  unread-own (Some reader) = unanswered (keeps slot (replies.Young (reader_note reader))) refl
  unread-own None = own-if (is_some (wanted_cell want slot) && fails) (keeps slot replies.Fault) (seize_granted bay slot ask id mask want slot.note) (unanswered (keeps slot replies.Fault) refl) (granted-own slot.note)

  blank-own : (floor : Option Number) (o : SlotOutcome) → Own o → Own (seize_blank slot floor o)
  blank-own (Some floor) o x = λ answer note f. absurd (let bad : None ≡ Some note = f in cc)
  blank-own None o x = x

  noted-own : (young : Option Note) → Own (seize_noted bay slot ask id mask want fails young)
  noted-own (Some note) = unanswered (keeps slot (replies.Young note)) refl
  noted-own None =
      let reader = find (λ reader. not (may_seize bay ask reader.host reader.moment)) slot.readers in
      blank-own (slot_floor slot slot.cell) (seize_unread bay slot ask id mask want fails reader) (unread-own reader)

  pub seized-own : (bay.empty ≡ true → slot.note ≡ None) → Own (seize_rule bay slot ask id mask want fails)
  seized-own bare = by bay.empty bare
    where
      by : (b : Bool) → (b ≡ true → slot.note ≡ None) → Own (if b then keeps slot (replies.Missing bay.high) else seize_noted bay slot ask id mask want fails (young_note bay ask slot.note))
      by true none = λ answer note f. absurd (let gone : slot.note ≡ None = none refl in let bad : slot.note ≡ Some note = f in cc)
      by false none = noted-own (young_note bay ask slot.note)
