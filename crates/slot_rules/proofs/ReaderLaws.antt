-- Readers hold off notes.
use Rattle.std.proofs.Common.{◌≡◌, ℕ, ◌==◌, ◌⊎◌, inl, inr, not, Bool, true, false, List, [], ◌∷◌, find, Option, Some, None, refl, sym, ap, subst, ◌∙◌, arith}
use Rattle.std.proofs.lemmas.Bool.Decides.{nat_tests}
use Rattle.raid_base.specs.declared.cells.Cell.{Cell}
use Rattle.raid_base.specs.declared.numbers.Number.{Number}
use Rattle.raid_base.specs.declared.numbers.RowNo.{RowNo}
use Rattle.raid_base.specs.declared.messages.How.{How}
use Rattle.raid_base.specs.declared.messages.How.TheVariants.{Plain, Seize, Mend}
use Rattle.raid_base.specs.declared.messages.Note.{Note}
use Rattle.raid_base.specs.declared.messages.Ask.{Ask}
use Rattle.raid_base.specs.declared.messages.Reply.{Reply}
use Rattle.raid_base.specs.declared.messages.Reply.TheVariants.{Granted, Busy, Late, Young, Missing, Held, NoNote, Done, Fault, Emptied, Fitted}
use Rattle.raid_base.specs.declared.messages.Request.{Request}
use Rattle.raid_base.specs.declared.messages.Request.TheVariants.{Share, Claim, Confirm, Put, Release, Lose, Fit}
use Rattle.slot_rules.specs.declared.Reader.{Reader}
use Rattle.slot_rules.specs.Slots.{Slot, Bay, slot_of}
use Rattle.slot_rules.specs.Rules.{is_reader, rule}
use Rattle.slot_rules.specs.Serving.{row_of}
use Rattle.slot_rules.specs.Laws.{claimed_note, NoteComes, ReadersStand, ClaimReaders, ReadersHoldOffNotes, ReleasesFindHolders}
use Rattle.slot_rules.proofs.RowSteps.{RowStep, Touched, Passed, Bared, row_step, slots_step_lem}

-- a reader that is found, where all are of one id
found_first : (mine : Number) (p : Reader → Bool) (y : Reader) (xs : List Reader) (x : Reader) (b m : Bool) → p y ≡ b → is_reader mine y ≡ m →
    find p (y ∷ xs) ≡ Some x → find (λ reader. not (is_reader mine reader)) (y ∷ xs) ≡ None →
    (find p xs ≡ Some x → find (λ reader. not (is_reader mine reader)) xs ≡ None → is_reader mine x ≡ true) → is_reader mine x ≡ true
found_first mine p y xs x true true e i f n rest = let h : Some y ≡ Some x = rw e at f in let same : y ≡ x = cc in ap (λ (r : Reader). is_reader mine r) (sym same) ∙ i
found_first mine p y xs x false true e i f n rest = rest (rw e at f) (rw i at n)
found_first mine p y xs x b false e i f n rest = absurd (let bad : Some y ≡ None = rw i at n in cc)

found_is : (mine : Number) (p : Reader → Bool) (xs : List Reader) (x : Reader) → find p xs ≡ Some x → find (λ reader. not (is_reader mine reader)) xs ≡ None → is_reader mine x ≡ true
found_is mine p [] x f n = absurd (let bad : None ≡ Some x = f in cc)
found_is mine p (y ∷ xs) x f n = found_first mine p y xs x _ _ refl refl f n (found_is mine p xs x)

same_id : (mine other : Number) → (other.0 == mine.0) ≡ true → mine ≡ other
same_id mine other e = let same : mine.0 ≡ other.0 = grind (arith, nat_tests) in ap (λ (n : ℕ). let x : Number = record { 0 = n } in x) same

claimed_id : (ask : Ask) (id : Number) (mask : ℕ) (seized : Option Note) (note : Note) → note ≡ claimed_note ask id mask seized → note.id ≡ id
claimed_id ask id mask None note e = ap (λ (n : Note). n.id) e
claimed_id ask id mask (Some old) note e = ap (λ (n : Note). n.id) e

by_claim : (how : How) (id : Number) (slot left : Slot) (reader : Reader) (note : Note) → note.id ≡ id → find (is_reader reader.id) slot.readers ≡ Some reader → ClaimReaders how id slot left →
    (note.id ≡ reader.id) ⊎ (left.readers ≡ [])
by_claim Plain id slot left reader note e f r = inl (e ∙ same_id id reader.id (found_is id (is_reader reader.id) slot.readers reader f r))
by_claim Mend id slot left reader note e f r = inl (e ∙ same_id id reader.id (found_is id (is_reader reader.id) slot.readers reader f r))
by_claim Seize id slot left reader note e f r = inr r

by_grant : (ask : Ask) (what : Request) (cell : Option Cell) (read_no write_no last : Number) (life : ℕ) (seized : Option Note) (slot left : Slot) (reader : Reader) (note : Note) →
    slot.note ≡ None → find (is_reader reader.id) slot.readers ≡ Some reader → NoteComes ask what (Granted cell read_no write_no last life seized) slot.note note →
    ReadersStand what (Granted cell read_no write_no last life seized) slot left → (note.id ≡ reader.id) ⊎ (left.readers ≡ [])
by_grant ask (Claim row id how mask want) cell read_no write_no last life seized slot left reader note n f c r = by_claim how id slot left reader note (claimed_id ask id mask seized note c.0) f r
by_grant ask (Share row id want) cell read_no write_no last life seized slot left reader note n f c r = absurd (let bad : None ≡ Some note = sym n ∙ c in cc)
by_grant ask (Confirm row id want) cell read_no write_no last life seized slot left reader note n f c r = absurd (let bad : None ≡ Some note = sym n ∙ c in cc)
by_grant ask (Put row id k new) cell read_no write_no last life seized slot left reader note n f c r = absurd (let bad : None ≡ Some note = sym n ∙ c in cc)
by_grant ask (Release row id k) cell read_no write_no last life seized slot left reader note n f c r = absurd (let bad : None ≡ Some note = sym n ∙ c in cc)
by_grant ask Lose cell read_no write_no last life seized slot left reader note n f c r = absurd (let bad : None ≡ Some note = sym n ∙ c in cc)
by_grant ask Fit cell read_no write_no last life seized slot left reader note n f c r = absurd (let bad : None ≡ Some note = sym n ∙ c in cc)

by_reply : (ask : Ask) (what : Request) (reply : Reply) (slot left : Slot) (reader : Reader) (note : Note) →
    slot.note ≡ None → find (is_reader reader.id) slot.readers ≡ Some reader → NoteComes ask what reply slot.note note → ReadersStand what reply slot left →
    (note.id ≡ reader.id) ⊎ (left.readers ≡ [])
by_reply ask what (Granted cell read_no write_no last life seized) slot left reader note n f c r = by_grant ask what cell read_no write_no last life seized slot left reader note n f c r
by_reply ask what (Busy holder) slot left reader note n f c r = absurd (let bad : None ≡ Some note = sym n ∙ c in cc)
by_reply ask what (Late above) slot left reader note n f c r = absurd (let bad : None ≡ Some note = sym n ∙ c in cc)
by_reply ask what (Young young) slot left reader note n f c r = absurd (let bad : None ≡ Some note = sym n ∙ c in cc)
by_reply ask what (Missing floor) slot left reader note n f c r = absurd (let bad : None ≡ Some note = sym n ∙ c in cc)
by_reply ask what (Held cell) slot left reader note n f c r = absurd (let bad : None ≡ Some note = sym n ∙ c in cc)
by_reply ask what (NoNote life) slot left reader note n f c r = absurd (let bad : None ≡ Some note = sym n ∙ c in cc)
by_reply ask what Done slot left reader note n f c r = absurd (let bad : None ≡ Some note = sym n ∙ c in cc)
by_reply ask what Fault slot left reader note n f c r = absurd (let bad : None ≡ Some note = sym n ∙ c in cc)
by_reply ask what Emptied slot left reader note n f c r = absurd (let bad : None ≡ Some note = sym n ∙ c in cc)
by_reply ask what Fitted slot left reader note n f c r = absurd (let bad : None ≡ Some note = sym n ∙ c in cc)

by_step : (bay : Bay) (ask : Ask) (row : RowNo) (reply : Reply) (after : Bay) (reader : Reader) (note : Note) → RowStep bay ask row reply after →
    (slot_of bay row).note ≡ None → find (is_reader reader.id) (slot_of bay row).readers ≡ Some reader → (slot_of after row).note ≡ Some note →
    (note.id ≡ reader.id) ⊎ ((slot_of after row).readers ≡ [])
by_step bay ask row reply after reader note (Touched at step e c) n f o = by_reply ask ask.what reply (slot_of bay row) (slot_of after row) reader note n f (step.note_comes note o) step.readers_stand
by_step bay ask row reply after reader note (Passed same is e) n f o = absurd (let bad : None ≡ Some note = sym n ∙ (ap (λ (s : Slot). s.note) (sym same) ∙ o) in cc)
by_step bay ask row reply after reader note (Bared k same is e z l) n f o = inr (ap (λ (s : Slot). s.readers) same)

pub readers_hold_off_notes_lem : ReadersHoldOffNotes
readers_hold_off_notes_lem bay ask fails row reader note l n f o = by_step bay ask row _ (rule bay ask fails).bay reader note (row_step bay ask fails row l) n f o

pub releases_find_holders_lem : ReleasesFindHolders
releases_find_holders_lem bay ask fails row id n l is done =
    let at : row_of ask.what ≡ Some row = ap (λ (w : Request). row_of w) is in
    let stand = (slots_step_lem bay ask fails row at l).readers_stand in
    subst (λ (r : Reply). ReadersStand (Release row id n) r (slot_of bay row) (slot_of (rule bay ask fails).bay row)) done
    (subst (λ (w : Request). ReadersStand w (rule bay ask fails).reply (slot_of bay row) (slot_of (rule bay ask fails).bay row)) is stand)
