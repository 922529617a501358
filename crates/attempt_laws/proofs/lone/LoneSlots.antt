-- A slot of which only one attempt asks: no request is refused, unless the store fails.
use Rattle.std.proofs.Common.{◌≡◌, ◌∙◌, sym, ap, refl, subst, ◌==◌, ◌&&◌, ◌<◌, ◌≤◌, nat_le, nat_lt, max, not, Bool, true, false, ℕ, if◌then◌else◌, find, List, [], ◌∷◌, Option, Some, None, is_some, IsSome, arith}
use Rattle.std.proofs.lemmas.Bool.Decides.{nat_tests}
use Rattle.raid_base.specs.declared.numbers.Number.{Number}
use Rattle.raid_base.specs.declared.cells.Cell.{Cell}
use Rattle.raid_base.specs.declared.messages.Mode.{Mode}
use Rattle.raid_base.specs.declared.messages.Mode.TheVariants.{Lock, Order}
use Rattle.raid_base.specs.declared.messages.How.{How}
use Rattle.raid_base.specs.declared.messages.How.TheVariants.{Plain}
use Rattle.raid_base.specs.declared.messages.Note.{Note}
use Rattle.raid_base.specs.declared.messages.Ask.{Ask}
use Rattle.raid_base.specs.declared.messages.Reply.TheVariants as replies
use Rattle.raid_base.specs.declared.messages.Request.{Request}
use Rattle.raid_base.specs.declared.messages.Request.TheVariants.{Share, Claim, Confirm, Put, Release, Lose, Fit}
use Rattle.raid_base.specs.Numbers.{greater}
use Rattle.raid_base.specs.Replies.{is_fault}
use Rattle.slot_rules.specs.declared.Reader.{Reader}
use Rattle.slot_rules.specs.Slots.{Slot, Bay}
use Rattle.slot_rules.specs.Rules.{SlotOutcome, keeps, wanted_cell, reads, slot_floor, missing_floor, note_id, is_reader, other_readers, reader_of, with_reader, share_granted_lock, share_lock, share_granted_order, share_order, is_same_host, share_by, share_at, share_rule, claim_granted, is_late, claim_noted, claim_at, claim_rule, confirm_missing, confirm_rule, put_done, put_rule, release_reader, release_rule}
use Rattle.slot_rules.specs.Serving.{slot_rule}
use Rattle.slot_rules.specs.Laws.{is_refused}
use Rattle.attempt_laws.proofs.lone.LoneWalks.{Use, Untouched, Shared, Claimed, Left, act_of, next, Fine, IsOwn, IsLetGo}

-- its note, by the use that the attempt has made of it
abbrev pub NoteIs : Number → Use → Option Note → Type 0
NoteIs id Untouched note = note ≡ None
NoteIs id Shared note = note ≡ None
NoteIs id Claimed note = note_id note id ≡ true
NoteIs id Left note = note ≡ None

-- its readers: under locks the attempt's own
abbrev pub OneReader : Mode → Number → List Reader → Type 0
OneReader Lock id readers = (reader : Reader) × (readers ≡ reader ∷ []) × (reader.id ≡ id)
OneReader Order id readers = readers ≡ []

abbrev pub ReadersAre : Mode → Number → Use → List Reader → Type 0
ReadersAre mode id Untouched readers = readers ≡ []
ReadersAre mode id Shared readers = OneReader mode id readers
ReadersAre mode id Claimed readers = readers ≡ []
ReadersAre mode id Left readers = readers ≡ []

-- its numbers: under stamps they are below an id that has not touched it
abbrev pub AreBelow : Number → Use → Number → Number → Type 0
AreBelow id Untouched read_no write_no = (read_no.0 < id.0) × (write_no.0 < id.0)
AreBelow id Shared read_no write_no = (read_no.0 ≤ id.0) × (write_no.0 ≤ id.0)
AreBelow id Claimed read_no write_no = (read_no.0 ≤ id.0) × (write_no.0 ≤ id.0)
AreBelow id Left read_no write_no = (read_no.0 ≤ id.0) × (write_no.0 ≤ id.0)

abbrev pub NumbersAre : Mode → Number → Use → Number → Number → Type 0
NumbersAre Lock id state read_no write_no = Unit {0}
NumbersAre Order id state read_no write_no = AreBelow id state read_no write_no

pub record SlotIs (mode : Mode) (id : Number) (state : Use) (slot : Slot) : Type 0 where
  pub filled : is_some slot.cell ≡ true
  pub noted : NoteIs id state slot.note
  pub read : ReadersAre mode id state slot.readers
  pub numbered : NumbersAre mode id state slot.read_no slot.write_no

-- a slot between two attempts of a host that has seen this much
abbrev pub AreSeen : Mode → Number → Number → Number → Type 0
AreSeen Lock seen read_no write_no = Unit {0}
AreSeen Order seen read_no write_no = (read_no.0 ≤ seen.0) × (write_no.0 ≤ seen.0)

pub record IsIdle (mode : Mode) (seen : Number) (slot : Slot) : Type 0 where
  pub filled : is_some slot.cell ≡ true
  pub noted : slot.note ≡ None
  pub read : slot.readers ≡ []
  pub numbered : AreSeen mode seen slot.read_no slot.write_no

pub idle-begins : (mode : Mode) (seen id : Number) (slot : Slot) → seen.0 < id.0 → IsIdle mode seen slot → SlotIs mode id Untouched slot
idle-begins Lock seen id slot less i = record { filled = i.filled; noted = i.noted; read = i.read; numbered = tt }
idle-begins Order seen id slot less i =
    let low = i.numbered in
    record { filled = i.filled; noted = i.noted; read = i.read; numbered = (omega (arith, low.0, less), omega (arith, low.1, less)) }

pub ends-idle : (mode : Mode) (id seen : Number) (state : Use) (slot : Slot) → id.0 ≤ seen.0 → IsLetGo mode id mode state → SlotIs mode id state slot → IsIdle mode seen slot
ends-idle Lock id seen Untouched slot le free s = record { filled = s.filled; noted = s.noted; read = s.read; numbered = tt }
ends-idle Lock id seen Shared slot le free s = absurd free
ends-idle Lock id seen Claimed slot le free s = absurd free
ends-idle Lock id seen Left slot le free s = record { filled = s.filled; noted = s.noted; read = s.read; numbered = tt }
ends-idle Order id seen Untouched slot le free s =
    let low = s.numbered in
    record { filled = s.filled; noted = s.noted; read = s.read; numbered = (omega (arith, low.0, le), omega (arith, low.1, le)) }
ends-idle Order id seen Shared slot le free s =
    let low = s.numbered in
    record { filled = s.filled; noted = s.noted; read = s.read; numbered = (omega (arith, low.0, le), omega (arith, low.1, le)) }
ends-idle Order id seen Claimed slot le free s = absurd free
ends-idle Order id seen Left slot le free s =
    let low = s.numbered in
    record { filled = s.filled; noted = s.noted; read = s.read; numbered = (omega (arith, low.0, le), omega (arith, low.1, le)) }

-- What a request does
no-way : {X : Type 0} → true ≡ false → X
no-way h = absurd (cc)

module _ (bay : Bay) (slot : Slot) (ask : Ask) (id : Number) where
  -- unless the store has failed the request is not refused, and the slot is this afterwards
  abbrev Serves : Mode → Use → SlotOutcome → Type 0
  Serves mode state o = is_fault o.reply ≡ false → (is_refused o.reply ≡ false) × SlotIs mode id state o.slot

  serves-read : (mode : Mode) (state : Use) (want fails : Bool) (o : SlotOutcome) → Serves mode state o → Serves mode state (reads want fails slot o)
  serves-read mode state want fails o h = by (is_some (wanted_cell want slot) && fails)
    where
      by : (b : Bool) → Serves mode state (if b then keeps slot replies.Fault else o)
      by true = λ f. no-way f
      by false = h

  -- the bay has its device, and the slot its cell
  no-floor : bay.empty ≡ false → is_some slot.cell ≡ true → missing_floor bay slot ≡ None
  no-floor there filled = by bay.empty slot.cell there filled
    where
      by : (b : Bool) (cell : Option Cell) → b ≡ false → is_some cell ≡ true → (if b then Some bay.high else slot_floor slot cell) ≡ None
      by true cell e f = no-way e
      by false None e f = no-way (sym f)
      by false (Some cell) e f = refl

  none-found : (test : Reader → Bool) (readers : List Reader) → readers ≡ [] → find test readers ≡ None
  none-found test readers e = ap (find test) e

  -- Share
  module _ (want fails : Bool) where
    share-locks : (note : Option Note) (other : Option Reader) → note ≡ None → other ≡ None → SlotIs Lock id Untouched slot → Serves Lock Shared (share_lock bay slot ask id want fails note other)
    share-locks (Some note) other e f s = absurd (cc)
    share-locks None (Some reader) e f s = absurd (cc)
    share-locks None None e f s =
        serves-read Lock Shared want fails (share_granted_lock bay slot ask id want)
        (λ g. (refl, record { filled = s.filled; noted = s.noted; read = one slot.readers s.read; numbered = tt }))
      where
        one : (readers : List Reader) → readers ≡ [] → OneReader Lock id (with_reader ask id (find (is_reader id) readers) readers)
        one [] e = (reader_of ask id, refl, refl)
        one (x ∷ xs) e = absurd (cc)

    share-orders : (note : Option Note) → note ≡ None → SlotIs Order id Untouched slot → Serves Order Shared (share_order bay slot id want fails note)
    share-orders (Some note) e s = absurd (cc)
    share-orders None e s = by (nat_lt id.0 slot.write_no.0) refl
      where
        low : (slot.read_no.0 < id.0) × (slot.write_no.0 < id.0)
        low = s.numbered

        raised : (read_no : Number) → read_no.0 < id.0 → (greater read_no id).0 ≤ id.0
        raised read_no less = omega (arith, less)

        by : (b : Bool) → nat_lt id.0 slot.write_no.0 ≡ b → Serves Order Shared (if b then keeps slot (replies.Late slot.write_no) else reads want fails slot (share_granted_order bay slot id want))
        by true f = let less : id.0 < slot.write_no.0 = grind (arith, nat_tests) in absurd (omega (arith, less, low.1))
        by false f =
            serves-read Order Shared want fails (share_granted_order bay slot id want)
            (λ g. (refl, record { filled = s.filled; noted = s.noted; read = s.read; numbered = (raised slot.read_no low.0, omega (arith, low.1)) }))

    share-bys : (mode : Mode) → SlotIs mode id Untouched slot → Serves mode Shared (share_by mode bay slot ask id want fails)
    share-bys Lock s = share-locks slot.note (find (is_same_host ask id) slot.readers) s.noted (none-found (is_same_host ask id) slot.readers s.read) s
    share-bys Order s = share-orders slot.note s.noted s

    share-serves : bay.empty ≡ false → SlotIs bay.mode id Untouched slot → Serves bay.mode Shared (share_rule bay slot ask id want fails)
    share-serves there s = subst (λ (floor : Option Number). Serves bay.mode Shared (share_at bay slot ask id want fails floor)) (sym (no-floor there s.filled)) (share-bys bay.mode s)

  -- Claim
  module _ (mask : ℕ) (want fails : Bool) where
    claims : (mode : Mode) → SlotIs mode id Untouched slot → Serves mode Claimed (claim_granted bay slot ask id mask want)
    claims mode s f = (refl, record { filled = s.filled; noted = own; read = none slot.readers s.read; numbered = numbers mode s.numbered })
      where
        own : (id.0 == id.0) ≡ true
        own = grind (arith, nat_tests)

        none : (readers : List Reader) → readers ≡ [] → other_readers id readers ≡ []
        none readers e = ap (other_readers id) e

        numbers : (m : Mode) → NumbersAre m id Untouched slot.read_no slot.write_no → NumbersAre m id Claimed slot.read_no slot.write_no
        numbers Lock h = tt
        numbers Order h = (omega (arith, h.0), omega (arith, h.1))

    claim-frees : (mode : Mode) → SlotIs mode id Untouched slot → Serves mode Claimed (if is_late Plain mode id slot then keeps slot (replies.Late (greater slot.read_no slot.write_no)) else reads want fails slot (claim_granted bay slot ask id mask want))
    claim-frees Lock s = serves-read Lock Claimed want fails (claim_granted bay slot ask id mask want) (claims Lock s)
    claim-frees Order s = by (nat_le id.0 (max slot.read_no.0 slot.write_no.0)) refl
      where
        low : (slot.read_no.0 < id.0) × (slot.write_no.0 < id.0)
        low = s.numbered

        by : (b : Bool) → nat_le id.0 (max slot.read_no.0 slot.write_no.0) ≡ b →
            Serves Order Claimed (if b then keeps slot (replies.Late (greater slot.read_no slot.write_no)) else reads want fails slot (claim_granted bay slot ask id mask want))
        by true f = let late : id.0 ≤ max slot.read_no.0 slot.write_no.0 = grind (arith, nat_tests) in absurd (omega (arith, late, low.0, low.1))
        by false f = serves-read Order Claimed want fails (claim_granted bay slot ask id mask want) (claims Order s)

    claim-serves : bay.empty ≡ false → SlotIs bay.mode id Untouched slot → Serves bay.mode Claimed (claim_rule Plain bay slot ask id mask want fails)
    claim-serves there s =
        subst (λ (floor : Option Number). Serves bay.mode Claimed (claim_at bay slot ask id Plain mask want fails floor)) (sym (no-floor there s.filled))
        (by slot.note (find (λ reader. not (is_reader id reader)) slot.readers) s.noted (none-found (λ reader. not (is_reader id reader)) slot.readers s.read))
      where
        by : (note : Option Note) (reader : Option Reader) → note ≡ None → reader ≡ None → Serves bay.mode Claimed (claim_noted bay slot ask id Plain mask want fails note reader)
        by (Some note) reader e f = absurd (cc)
        by None (Some reader) e f = absurd (cc)
        by None None e f = claim-frees bay.mode s

  -- Confirm
  confirm-serves : (want fails : Bool) (mode : Mode) → SlotIs mode id Claimed slot → Serves mode Claimed (confirm_rule bay slot id want fails)
  confirm-serves want fails mode s = by (note_id slot.note id) s.noted
    where
      by : (b : Bool) → b ≡ true → Serves mode Claimed (if b then reads want fails slot (keeps slot (replies.Held (wanted_cell want slot))) else confirm_missing bay slot (missing_floor bay slot))
      by true e = serves-read mode Claimed want fails (keeps slot (replies.Held (wanted_cell want slot))) (λ f. (refl, s))
      by false e = no-way (sym e)

  -- Put
  put-serves : (n : Number) (cell : Cell) (fails : Bool) (mode : Mode) → (mode ≡ Order → n ≡ id) → SlotIs mode id Claimed slot → Serves mode Left (put_rule bay slot id n cell fails)
  put-serves n cell fails mode own s = by (note_id slot.note id) fails s.noted
    where
      numbers : (m : Mode) → (m ≡ Order → n ≡ id) → NumbersAre m id Claimed slot.read_no slot.write_no → NumbersAre m id Left slot.read_no (greater slot.write_no n)
      numbers Lock f h = tt
      numbers Order f h = let same : n.0 ≡ id.0 = ap (λ (x : Number). x.0) (f refl) in (h.0, omega (arith, h.1, same))

      by : (b fail : Bool) → b ≡ true → Serves mode Left (if b then (if fail then keeps slot replies.Fault else put_done slot id n cell) else keeps slot (replies.NoNote bay.life))
      by true true e = λ f. no-way f
      by true false e = λ f. (refl, record { filled = refl; noted = refl; read = s.read; numbered = numbers mode own s.numbered })
      by false fail e = no-way (sym e)

  -- Release of a reader
  release-serves : (n : Option Number) (mode : Mode) → mode ≡ Lock → SlotIs mode id Shared slot → Serves mode Left (release_rule bay slot id n)
  release-serves n Order locks s = absurd (cc)
  release-serves n Lock locks s =
      subst (λ (note : Option Note). Serves Lock Left (if note_id note id then record { reply = replies.Done; slot = record slot { note = None } } else release_reader bay slot id n (find (is_reader id) slot.readers)))
      (sym s.noted) (by (find (is_reader id) slot.readers) (found slot.readers s.read))
    where
      gone : (readers : List Reader) → OneReader Lock id readers → other_readers id readers ≡ []
      gone readers r = ap (other_readers id) r.1 ∙ one r.0 r.2
        where
          one : (reader : Reader) → reader.id ≡ id → other_readers id (reader ∷ []) ≡ []
          one reader e = let own : is_reader id reader ≡ true = let same : reader.id.0 ≡ id.0 = ap (λ (x : Number). x.0) e in grind (arith, nat_tests) in ap (λ (b : Bool). if not b then reader ∷ [] else []) own

      found : (readers : List Reader) → OneReader Lock id readers → IsSome (find (is_reader id) readers)
      found readers r = subst (λ (xs : List Reader). IsSome (find (is_reader id) xs)) (sym r.1) (one r.0 r.2)
        where
          one : (reader : Reader) → reader.id ≡ id → IsSome (find (is_reader id) (reader ∷ []))
          one reader e =
              let own : is_reader id reader ≡ true = let same : reader.id.0 ≡ id.0 = ap (λ (x : Number). x.0) e in grind (arith, nat_tests) in
              subst (λ (b : Bool). IsSome (if b then Some reader else None)) (sym own) refl

      by : (o : Option Reader) → IsSome o → Serves Lock Left (release_reader bay slot id n o)
      by None some = absurd (let bad : false ≡ true = some in cc)
      by (Some reader) some = λ f. (refl, record { filled = s.filled; noted = s.noted; read = gone slot.readers s.read; numbered = tt })

  -- any request that is fine
  pub slot-serves : (fails : Bool) (what : Request) (state : Use) → bay.empty ≡ false → SlotIs bay.mode id state slot → IsOwn bay.mode id what → Fine bay.mode id (act_of what) state →
      Serves bay.mode (next (act_of what) state) (slot_rule bay slot ask fails what)
  slot-serves fails (Share row by want) state there s own fine =
      subst (λ (x : Number). Serves bay.mode Shared (share_rule bay slot ask x want fails)) (sym own) (share-serves want fails there (subst (λ (u : Use). SlotIs bay.mode id u slot) fine s))
  slot-serves fails (Claim row by how mask want) state there s own fine =
      subst (λ (x : Number). Serves bay.mode Claimed (claim_rule how bay slot ask x mask want fails)) (sym own.0)
      (subst (λ (h : How). Serves bay.mode Claimed (claim_rule h bay slot ask id mask want fails)) (sym own.1) (claim-serves mask want fails there (subst (λ (u : Use). SlotIs bay.mode id u slot) fine s)))
  slot-serves fails (Confirm row by want) state there s own fine =
      subst (λ (x : Number). Serves bay.mode state (confirm_rule bay slot x want fails)) (sym own)
      (subst (λ (u : Use). Serves bay.mode u (confirm_rule bay slot id want fails)) (sym fine) (confirm-serves want fails bay.mode (subst (λ (u : Use). SlotIs bay.mode id u slot) fine s)))
  slot-serves fails (Put row by n cell) state there s own fine =
      subst (λ (x : Number). Serves bay.mode Left (put_rule bay slot x n cell fails)) (sym own.0) (put-serves n cell fails bay.mode own.1 (subst (λ (u : Use). SlotIs bay.mode id u slot) fine s))
  slot-serves fails (Release row by n) state there s own fine =
      subst (λ (x : Number). Serves bay.mode Left (release_rule bay slot x n)) (sym own) (release-serves n bay.mode fine.1 (subst (λ (u : Use). SlotIs bay.mode id u slot) fine.0 s))
  slot-serves fails Lose state there s own fine = absurd own
  slot-serves fails Fit state there s own fine = absurd own
