-- Which notes and readers a request leaves in its slot.
use Rattle.std.proofs.Common.{◌≡◌, ◌⊎◌, inl, inr, ℕ, ◌<◌, ◌&&◌, nat_lt, not, Bool, true, false, if◌then◌else◌, List, [], ◌∷◌, ◌++◌, find, length, Option, Some, None, is_some, IsSome, refl, sym, ap, subst, ◌∙◌, arith}
use Rattle.std.proofs.lemmas.Bool.Decides.{nat_tests}
use Rattle.std.proofs.lemmas.List.{get_or-set_same}
use Rattle.raid_base.specs.declared.numbers.Number.{Number}
use Rattle.raid_base.specs.declared.numbers.RowNo.{RowNo}
use Rattle.raid_base.specs.declared.cells.Cell.{Cell}
use Rattle.raid_base.specs.declared.messages.Mode.{Mode}
use Rattle.raid_base.specs.declared.messages.Mode.TheVariants.{Lock, Order}
use Rattle.raid_base.specs.declared.messages.How.{How}
use Rattle.raid_base.specs.declared.messages.How.TheVariants.{Plain, Seize, Mend}
use Rattle.raid_base.specs.declared.messages.Note.{Note}
use Rattle.raid_base.specs.declared.messages.Ask.{Ask}
use Rattle.raid_base.specs.declared.messages.Reply.{Reply}
use Rattle.raid_base.specs.declared.messages.Reply.TheVariants.{Busy, Late, Young, Missing, Held, NoNote, Done, Fault}
use Rattle.raid_base.specs.declared.messages.PutEnd.{PutEnd}
use Rattle.raid_base.specs.declared.messages.PutEnd.TheVariants.{Made, Unnoted, Failed}
use Rattle.raid_base.specs.declared.messages.Request.{Request}
use Rattle.raid_base.specs.declared.messages.Request.TheVariants.{Share, Claim, Confirm, Put, Release, Lose, Fit}
use Rattle.raid_base.specs.Numbers.{number, greater}
use Rattle.raid_base.specs.Replies.{grant_of, put_end}
use Rattle.slot_rules.specs.declared.Reader.{Reader}
use Rattle.slot_rules.specs.Slots.{Slot, Bay, bare_slot, slot_of, reader_note}
use Rattle.slot_rules.specs.Rules.{SlotOutcome, Outcome, keeps, reads, wanted_cell, slot_floor, missing_floor, is_reader, note_id, is_same_host, may_seize, young_note, other_readers, reader_of, with_reader, share_lock, share_granted_lock, share_order, share_unnoted, share_granted_order, share_by, share_at, share_rule, claim_granted, claim_free, claim_noted, claim_at, is_late, seize_granted, seize_unread, seize_blank, seize_noted, claim_rule, confirm_missing, confirm_rule, put_done, put_rule, release_reader, release_rule, rule}
use Rattle.slot_rules.specs.Serving.{row_of, slot_rule}
use Rattle.slot_rules.specs.Laws.{is_row}
use Rattle.slot_rules.proofs.TableParts.{rule_of-row}
use Rattle.slot_rules.proofs.RowSteps.{RowStep, Touched, Passed, Bared, row_step}
use Rattle.attempts.specs.Phases.{IsIn}

no-way : {X : Type 0} → false ≡ true → X
no-way h = absurd (cc)

-- Lists of readers
in-append : (x y : Reader) (xs : List Reader) → IsIn x (xs ++ y ∷ []) → IsIn x xs ⊎ (y ≡ x)
in-append x y [] (inl e) = inr e
in-append x y [] (inr e) = absurd e
in-append x y (z ∷ zs) (inl e) = inl (inl e)
in-append x y (z ∷ zs) (inr i) = by (in-append x y zs i)
  where
    by : IsIn x zs ⊎ (y ≡ x) → IsIn x (z ∷ zs) ⊎ (y ≡ x)
    by (inl h) = inl (inr h)
    by (inr e) = inr e

-- those of other ids are among them, and have other ids
in-others : (id : Number) (x : Reader) (xs : List Reader) → IsIn x (other_readers id xs) → IsIn x xs × (x.id ≡ id → ⊥)
in-others id x [] i = absurd i
in-others id x (y ∷ ys) i = by (λ h. in-others id x ys h) (is_reader id y) refl i
  where
    by : (IsIn x (other_readers id ys) → IsIn x ys × (x.id ≡ id → ⊥)) → (b : Bool) → is_reader id y ≡ b →
        IsIn x (if not b then y ∷ other_readers id ys else other_readers id ys) → IsIn x (y ∷ ys) × (x.id ≡ id → ⊥)
    by more true e h = let rest = more h in (inr rest.0, rest.1)
    by more false e (inl same) = (
      inl same,
      λ own. let at : y.id.0 ≡ id.0 = ap (λ (r : Reader). r.id.0) same ∙ ap (λ (n : Number). n.0) own in absurd (grind (arith, nat_tests)),
    )
    by more false e (inr h) = let rest = more h in (inr rest.0, rest.1)

none-found : (id : Number) (x : Reader) (xs : List Reader) → find (is_reader id) xs ≡ None → IsIn x xs → x.id ≡ id → ⊥
none-found id x [] e i own = i
none-found id x (y ∷ ys) e i own = by (λ f h. none-found id x ys f h own) (is_reader id y) refl e i
  where
    by : (find (is_reader id) ys ≡ None → IsIn x ys → ⊥) → (b : Bool) → is_reader id y ≡ b → (if b then Some y else find (is_reader id) ys) ≡ None → IsIn x (y ∷ ys) → ⊥
    by more true s f h = absurd (cc)
    by more false s f (inl same) =
        let at : y.id.0 ≡ id.0 = ap (λ (r : Reader). r.id.0) same ∙ ap (λ (n : Number). n.0) own in absurd (grind (arith, nat_tests))
    by more false s f (inr h) = more f h

-- no note and no reader of a slot have one id
abbrev pub Apart : Slot → Type 0
Apart slot = (note : Note) (x : Reader) → slot.note ≡ Some note → IsIn x slot.readers → note.id ≡ x.id → ⊥

abbrev pub HasNote : Number → Slot → Type 0
HasNote id slot = (note : Note) × (slot.note ≡ Some note) × (note.id ≡ id)

abbrev pub HasReader : Number → Slot → Type 0
HasReader id slot = (x : Reader) × IsIn x slot.readers × (x.id ≡ id)

-- a note is of a claim that was granted
abbrev pub ClaimedBy : Ask → Reply → Note → Request → Type 0
ClaimedBy ask reply note (Share row id want) = ⊥
ClaimedBy ask reply note (Claim row id how mask want) = (note.host ≡ ask.host) × (note.id ≡ id) × IsSome (grant_of reply)
ClaimedBy ask reply note (Confirm row id want) = ⊥
ClaimedBy ask reply note (Put row id n cell) = ⊥
ClaimedBy ask reply note (Release row id n) = ⊥
ClaimedBy ask reply note Lose = ⊥
ClaimedBy ask reply note Fit = ⊥

-- a reader is of a share that was granted under locks
abbrev pub SharedBy : Mode → Ask → Reply → Reader → Request → Type 0
SharedBy mode ask reply x (Share row id want) = (mode ≡ Lock) × (x.host ≡ ask.host) × (x.id ≡ id) × IsSome (grant_of reply)
SharedBy mode ask reply x (Claim row id how mask want) = ⊥
SharedBy mode ask reply x (Confirm row id want) = ⊥
SharedBy mode ask reply x (Put row id n cell) = ⊥
SharedBy mode ask reply x (Release row id n) = ⊥
SharedBy mode ask reply x Lose = ⊥
SharedBy mode ask reply x Fit = ⊥

abbrev pub Unputs : Number → Slot → PutEnd → Type 0
Unputs id slot Made = HasNote id slot → ⊥
Unputs id slot (Unnoted life) = HasNote id slot → ⊥
Unputs id slot Failed = Unit {0}

-- what has nothing of the id any more
abbrev pub Frees : Reply → Slot → Request → Type 0
Frees reply slot (Share row id want) = Unit {0}
Frees reply slot (Claim row id how mask want) = Unit {0}
Frees reply slot (Confirm row id want) = Unit {0}
Frees reply slot (Put row id n cell) = Unputs id slot (put_end reply)
Frees reply slot (Release row id n) = (HasNote id slot → ⊥) × (HasReader id slot → ⊥)
Frees reply slot Lose = Unit {0}
Frees reply slot Fit = Unit {0}

pub record Lets (mode : Mode) (ask : Ask) (what : Request) (slot : Slot) (reply : Reply) (left : Slot) : Type 0 where
  pub notes : (note : Note) → left.note ≡ Some note → (slot.note ≡ Some note) ⊎ ClaimedBy ask reply note what
  pub readers : (x : Reader) → IsIn x left.readers → IsIn x slot.readers ⊎ SharedBy mode ask reply x what
  pub apart : Apart slot → Apart left
  pub frees : Apart slot → Frees reply left what

module _ (mode : Mode) (ask : Ask) (slot : Slot) where
  abbrev Lot : Request → SlotOutcome → Type 0
  Lot what o = Lets mode ask what slot o.reply o.slot

  lot-if : (what : Request) (o p : SlotOutcome) (b : Bool) → Lot what o → Lot what p → Lot what (if b then o else p)
  lot-if what o p true x y = x
  lot-if what o p false x y = y

  -- what leaves the slot
  stays : (what : Request) (reply : Reply) → Frees reply slot what → Lot what (keeps slot reply)
  stays what reply free = record { notes = λ note e. inl e; readers = λ x i. inl i; apart = λ h. h; frees = λ h. free }

  lot-read : (what : Request) (want fails : Bool) (o : SlotOutcome) → Frees Fault slot what → Lot what o → Lot what (reads want fails slot o)
  lot-read what want fails o free x = lot-if what (keeps slot Fault) o (is_some (wanted_cell want slot) && fails) (stays what Fault free) x

  -- Share
  module _ (bay : Bay) (row : RowNo) (id : Number) (want fails : Bool) where
    abbrev sh : Request
    sh = Share row id want

    shared-reader : (found : Option Reader) (x : Reader) → mode ≡ Lock → IsIn x (with_reader ask id found slot.readers) →
        IsIn x slot.readers ⊎ ((mode ≡ Lock) × (x.host ≡ ask.host) × (x.id ≡ id) × IsSome (grant_of (share_granted_lock bay slot ask id want).reply))
    shared-reader (Some reader) x lock i = inl i
    shared-reader None x lock i = by (in-append x (reader_of ask id) slot.readers i)
      where
        by : IsIn x slot.readers ⊎ (reader_of ask id ≡ x) → IsIn x slot.readers ⊎ ((mode ≡ Lock) × (x.host ≡ ask.host) × (x.id ≡ id) × IsSome (grant_of (share_granted_lock bay slot ask id want).reply))
        by (inl h) = inl h
        by (inr e) = inr (lock, ap (λ (r : Reader). r.host) (sym e), ap (λ (r : Reader). r.id) (sym e), refl)

    share-locks : (note : Option Note) (other : Option Reader) → mode ≡ Lock → slot.note ≡ note → Lot sh (share_lock bay slot ask id want fails note other)
    share-locks (Some note) other lock e = stays sh (Busy note) tt
    share-locks None (Some reader) lock e = stays sh (Busy (reader_note reader)) tt
    share-locks None None lock e = lot-read sh want fails (share_granted_lock bay slot ask id want) tt (record {
      notes = λ note n. inl n;
      readers = λ x i. shared-reader (find (is_reader id) slot.readers) x lock i;
      apart = λ h note x n i same. let bad : None ≡ Some note = sym e ∙ n in cc;
      frees = λ h. tt;
    })

    share-unnoted : Lot sh (share_unnoted bay slot id want fails)
    share-unnoted = lot-if sh (keeps slot (Late slot.write_no)) (reads want fails slot (share_granted_order bay slot id want)) (nat_lt id.0 slot.write_no.0) (stays sh (Late slot.write_no) tt)
        (lot-read sh want fails (share_granted_order bay slot id want) tt (record { notes = λ note n. inl n; readers = λ x i. inl i; apart = λ h. h; frees = λ h. tt }))

    share-orders : (note : Option Note) → Lot sh (share_order bay slot id want fails note)
    share-orders None = share-unnoted
    share-orders (Some note) = lot-if sh (keeps slot (Busy note)) (share_unnoted bay slot id want fails) (nat_lt note.origin.0 id.0) (stays sh (Busy note) tt) share-unnoted

    share-bys : (m : Mode) → m ≡ mode → Lot sh (share_by m bay slot ask id want fails)
    share-bys Lock e = share-locks slot.note (find (is_same_host ask id) slot.readers) (sym e) refl
    share-bys Order e = share-orders slot.note

    share-lets : bay.mode ≡ mode → Lot sh (share_rule bay slot ask id want fails)
    share-lets e = by (missing_floor bay slot)
      where
        by : (floor : Option Number) → Lot sh (share_at bay slot ask id want fails floor)
        by (Some floor) = stays sh (Missing floor) tt
        by None = share-bys bay.mode e

  -- Claim
  module _ (bay : Bay) (row : RowNo) (id : Number) (mask : ℕ) (want fails : Bool) where
    claim-grants : (how : How) → Lot (Claim row id how mask want) (claim_granted bay slot ask id mask want)
    claim-grants how = record {
      notes = λ note n.
          let same : record { host = ask.host; id = id; origin = id; mask = mask; moment = ask.moment } ≡ note = cc in
          inr (ap (λ (x : Note). x.host) (sym same), ap (λ (x : Note). x.id) (sym same), refl);
      readers = λ x i. inl (in-others id x slot.readers i).0;
      apart = λ h note x n i own.
          let same : record { host = ask.host; id = id; origin = id; mask = mask; moment = ask.moment } ≡ note = cc in
          (in-others id x slot.readers i).1 (sym own ∙ ap (λ (x : Note). x.id) (sym same));
      frees = λ h. tt;
    }

    claim-frees : (how : How) → Lot (Claim row id how mask want) (claim_free bay slot ask id how mask want fails)
    claim-frees how = lot-if (Claim row id how mask want) (keeps slot (Late (greater slot.read_no slot.write_no))) (reads want fails slot (claim_granted bay slot ask id mask want)) (is_late how bay.mode id slot)
        (stays (Claim row id how mask want) (Late (greater slot.read_no slot.write_no)) tt)
        (lot-read (Claim row id how mask want) want fails (claim_granted bay slot ask id mask want) tt (claim-grants how))

    claim-ats : (how : How) (floor : Option Number) → Lot (Claim row id how mask want) (claim_at bay slot ask id how mask want fails floor)
    claim-ats how (Some floor) = stays (Claim row id how mask want) (Missing floor) tt
    claim-ats how None = by slot.note (find (λ reader. not (is_reader id reader)) slot.readers)
      where
        by : (note : Option Note) (reader : Option Reader) → Lot (Claim row id how mask want) (claim_noted bay slot ask id how mask want fails note reader)
        by (Some note) reader = stays (Claim row id how mask want) (Busy note) tt
        by None (Some reader) = stays (Claim row id how mask want) (Busy (reader_note reader)) tt
        by None None = claim-frees how

    abbrev sz : Request
    sz = Claim row id Seize mask want

    seize-grants : (old : Option Note) → Lot sz (seize_granted bay slot ask id mask want old)
    seize-grants None = record {
      notes = λ note n.
          let same : record { host = ask.host; id = id; origin = id; mask = mask; moment = ask.moment } ≡ note = cc in
          inr (ap (λ (x : Note). x.host) (sym same), ap (λ (x : Note). x.id) (sym same), refl);
      readers = λ x i. absurd i;
      apart = λ h note x n i own. i;
      frees = λ h. tt;
    }
    seize-grants (Some old) = record {
      notes = λ note n.
          let same : record { host = ask.host; id = id; origin = old.origin; mask = old.mask; moment = ask.moment } ≡ note = cc in
          inr (ap (λ (x : Note). x.host) (sym same), ap (λ (x : Note). x.id) (sym same), refl);
      readers = λ x i. absurd i;
      apart = λ h note x n i own. i;
      frees = λ h. tt;
    }

    seize-unreads : (reader : Option Reader) → Lot sz (seize_unread bay slot ask id mask want fails reader)
    seize-unreads (Some reader) = stays sz (Young (reader_note reader)) tt
    seize-unreads None = lot-read sz want fails (seize_granted bay slot ask id mask want slot.note) tt (seize-grants slot.note)

    seize-blanks : (floor : Option Number) (o : SlotOutcome) → Lot sz o → Lot sz (seize_blank slot floor o)
    seize-blanks (Some floor) o x = record {
      notes = λ note n. absurd (let bad : None ≡ Some note = n in cc);
      readers = λ x i. inl i;
      apart = λ h note x n i own. let bad : None ≡ Some note = n in cc;
      frees = λ h. tt;
    }
    seize-blanks None o x = x

    seize-noteds : (young : Option Note) → Lot sz (seize_noted bay slot ask id mask want fails young)
    seize-noteds (Some note) = stays sz (Young note) tt
    seize-noteds None =
        let reader = find (λ reader. not (may_seize bay ask reader.host reader.moment)) slot.readers in
        seize-blanks (slot_floor slot slot.cell) (seize_unread bay slot ask id mask want fails reader) (seize-unreads reader)

    claim-lets : (how : How) → Lot (Claim row id how mask want) (claim_rule how bay slot ask id mask want fails)
    claim-lets Plain = claim-ats Plain (missing_floor bay slot)
    claim-lets Mend = claim-ats Mend (if bay.empty then Some bay.high else None)
    claim-lets Seize =
        lot-if sz (keeps slot (Missing bay.high)) (seize_noted bay slot ask id mask want fails (young_note bay ask slot.note)) bay.empty
        (stays sz (Missing bay.high) tt) (seize-noteds (young_note bay ask slot.note))

  -- Confirm
  confirm-lets : (bay : Bay) (row : RowNo) (id : Number) (want fails : Bool) → Lot (Confirm row id want) (confirm_rule bay slot id want fails)
  confirm-lets bay row id want fails =
      lot-if (Confirm row id want) (reads want fails slot (keeps slot (Held (wanted_cell want slot)))) (confirm_missing bay slot (missing_floor bay slot)) (note_id slot.note id)
      (lot-read (Confirm row id want) want fails (keeps slot (Held (wanted_cell want slot))) tt (stays (Confirm row id want) (Held (wanted_cell want slot)) tt))
      (by (missing_floor bay slot))
    where
      by : (floor : Option Number) → Lot (Confirm row id want) (confirm_missing bay slot floor)
      by (Some floor) = stays (Confirm row id want) (Missing floor) tt
      by None = stays (Confirm row id want) (NoNote bay.life) tt

  -- the note of another id
  not-noted : (id : Number) → note_id slot.note id ≡ false → HasNote id slot → ⊥
  not-noted id e has = by slot.note e has.1
    where
      by : (old : Option Note) → note_id old id ≡ false → old ≡ Some has.0 → ⊥
      by None f n = cc
      by (Some note) f n =
          let same : note ≡ has.0 = cc in
          let at : note.id.0 ≡ id.0 = ap (λ (x : Note). x.id.0) same ∙ ap (λ (k : Number). k.0) has.2 in
          absurd (grind (arith, nat_tests))

  is-noted : (id : Number) → note_id slot.note id ≡ true → HasNote id slot
  is-noted id e = by slot.note refl e
    where
      by : (old : Option Note) → slot.note ≡ old → note_id old id ≡ true → HasNote id slot
      by None f n = no-way n
      by (Some note) f n = let same : note.id.0 ≡ id.0 = grind (arith, nat_tests) in (note, f, ap (λ (k : ℕ). number k) same)

  -- Put
  put-lets : (bay : Bay) (row : RowNo) (id n : Number) (cell : Cell) (fails : Bool) → Lot (Put row id n cell) (put_rule bay slot id n cell fails)
  put-lets bay row id n cell fails = by (note_id slot.note id) fails refl
    where
      by : (noted fail : Bool) → note_id slot.note id ≡ noted → Lot (Put row id n cell) (if noted then (if fail then keeps slot Fault else put_done slot id n cell) else keeps slot (NoNote bay.life))
      by true true e = stays (Put row id n cell) Fault tt
      by true false e = record {
        notes = λ note f. absurd (let bad : None ≡ Some note = f in cc);
        readers = λ x i. inl i;
        apart = λ h note x f i own. let bad : None ≡ Some note = f in cc;
        frees = λ h has. let bad : None ≡ Some has.0 = has.1 in cc;
      }
      by false fail e = stays (Put row id n cell) (NoNote bay.life) (not-noted id e)

  -- Release
  release-reads : (bay : Bay) (row : RowNo) (id : Number) (n : Option Number) (found : Option Reader) → find (is_reader id) slot.readers ≡ found → note_id slot.note id ≡ false →
      Lot (Release row id n) (release_reader bay slot id n found)
  release-reads bay row id n None e f =
      stays (Release row id n) (NoNote bay.life) (not-noted id f, λ has. none-found id has.0 slot.readers e has.1 has.2)
  release-reads bay row id n (Some reader) e f = record {
    notes = λ note k. inl k;
    readers = λ x i. inl (in-others id x slot.readers i).0;
    apart = λ h note x k i own. h note x k (in-others id x slot.readers i).0 own;
    frees = λ h. (λ has. not-noted id f (has.0, has.1, has.2), λ has. (in-others id has.0 slot.readers has.1).1 has.2);
  }

  release-lets : (bay : Bay) (row : RowNo) (id : Number) (n : Option Number) → Lot (Release row id n) (release_rule bay slot id n)
  release-lets bay row id n = by (note_id slot.note id) refl
    where
      by : (noted : Bool) → note_id slot.note id ≡ noted →
          Lot (Release row id n) (if noted then record { reply = Done; slot = record slot { note = None } } else release_reader bay slot id n (find (is_reader id) slot.readers))
      by true e =
          let own = is-noted id e in
          record {
            notes = λ note f. absurd (let bad : None ≡ Some note = f in cc);
            readers = λ x i. inl i;
            apart = λ h note x f i same. let bad : None ≡ Some note = f in cc;
            frees = λ h. (λ has. let bad : None ≡ Some has.0 = has.1 in cc, λ has. h own.0 has.0 own.1 has.1 (own.2 ∙ sym has.2));
          }
      by false e = release-reads bay row id n (find (is_reader id) slot.readers) refl e

  pub slot-lets : (bay : Bay) (fails : Bool) (what : Request) → bay.mode ≡ mode → (row : RowNo) → row_of what ≡ Some row → Lot what (slot_rule bay slot ask fails what)
  slot-lets bay fails (Share r id want) m row e = share-lets bay r id want fails m
  slot-lets bay fails (Claim r id how mask want) m row e = claim-lets bay r id mask want fails how
  slot-lets bay fails (Confirm r id want) m row e = confirm-lets bay r id want fails
  slot-lets bay fails (Put r id n cell) m row e = put-lets bay r id n cell fails
  slot-lets bay fails (Release r id n) m row e = release-lets bay r id n
  slot-lets bay fails Lose m row e = absurd (cc)
  slot-lets bay fails Fit m row e = absurd (cc)

-- A row of a bay: it is the request's, or it stays, or it is bare
pub data LetsRow (mode : Mode) (ask : Ask) (row : RowNo) (slot : Slot) (reply : Reply) (left : Slot) : Type 0 where
  Its : row_of ask.what ≡ Some row → Lets mode ask ask.what slot reply left → LetsRow mode ask row slot reply left
  Same : left ≡ slot → is_row row (row_of ask.what) ≡ false → LetsRow mode ask row slot reply left
  Bare : (n : Number) → left ≡ bare_slot n → LetsRow mode ask row slot reply left

pub row-lets : (bay : Bay) (ask : Ask) (fails : Bool) (row : RowNo) → row.0 < length bay.slots →
    LetsRow bay.mode ask row (slot_of bay row) (rule bay ask fails).reply (slot_of (rule bay ask fails).bay row)
row-lets bay ask fails row within = by (row_step bay ask fails row within)
  where
    by : RowStep bay ask row (rule bay ask fails).reply (rule bay ask fails).bay →
        LetsRow bay.mode ask row (slot_of bay row) (rule bay ask fails).reply (slot_of (rule bay ask fails).bay row)
    by (Touched is step empty cap) =
        let o : SlotOutcome = slot_rule bay (slot_of bay row) ask fails ask.what in
        subst (λ (x : Outcome). LetsRow bay.mode ask row (slot_of bay row) x.reply (slot_of x.bay row)) (sym (rule_of-row bay ask fails ask.what row is))
        (subst (λ (s : Slot). LetsRow bay.mode ask row (slot_of bay row) o.reply s) (sym (get_or-set_same bay.slots row.0 o.slot (bare_slot (number 0)) within))
        (Its is (slot-lets bay.mode ask (slot_of bay row) bay fails ask.what refl row is)))
    by (Passed same other empty) = Same same other
    by (Bared n same other a b c) = Bare n same
