-- All that the slot rule may do to a slot that is asked, case by case.
use Rattle.std.proofs.Common.{◌≡◌, ◌⊎◌, inl, inr, refl, sym, ap, subst, ◌∙◌, ℕ, ◌<◌, ◌≤◌, max, Bool, true, false, not, ◌&&◌, if◌then◌else◌, List, [], ◌∷◌, find, Option, Some, None, IsSome, is_some, nat_lt, arith}
use Rattle.std.proofs.lemmas.Bool.Decides.{nat_tests}
use Rattle.raid_base.specs.declared.numbers.RowNo.{RowNo}
use Rattle.raid_base.specs.declared.numbers.Number.{Number}
use Rattle.raid_base.specs.declared.cells.Cell.{Cell}
use Rattle.raid_base.specs.declared.messages.Mode.{Mode}
use Rattle.raid_base.specs.declared.messages.Mode.TheVariants.{Lock, Order}
use Rattle.raid_base.specs.declared.messages.How.{How}
use Rattle.raid_base.specs.declared.messages.How.TheVariants.{Plain, Seize, Mend}
use Rattle.raid_base.specs.declared.messages.Note.{Note}
use Rattle.raid_base.specs.declared.messages.Ask.{Ask}
use Rattle.raid_base.specs.declared.messages.Reply.{Reply}
use Rattle.raid_base.specs.declared.messages.Reply.TheVariants.{Busy, Late, Young, Missing, Held, NoNote, Done, Fault, Granted, Emptied, Fitted}
use Rattle.raid_base.specs.declared.messages.Request.{Request}
use Rattle.raid_base.specs.declared.messages.Request.TheVariants.{Share, Claim, Confirm, Put, Release, Lose, Fit}
use Rattle.raid_base.specs.Numbers.{greater}
use Rattle.raid_base.specs.Replies.{grant_of}
use Rattle.raid_base.specs.declared.messages.Grant.{Grant}
use Rattle.slot_rules.specs.declared.Reader.{Reader}
use Rattle.slot_rules.specs.Slots.{Slot, Bay, reader_note}
use Rattle.slot_rules.specs.Rules.{SlotOutcome, keeps, wanted_cell, reads, granted, slot_floor, missing_floor, may_seize, note_id, is_reader, other_readers, share_granted_lock, share_lock, share_granted_order, share_unnoted, share_order, is_same_host, share_by, share_at, claim_granted, is_late, claim_free, claim_noted, claim_at, seize_granted, seize_unread, seize_blank, young_note, seize_noted, claim_rule, confirm_missing, confirm_rule, put_done, put_rule, read_at, release_reader, release_rule}
use Rattle.slot_rules.specs.Serving.{row_of, slot_rule}
use Rattle.slot_rules.specs.Laws.{is_refused, claimed_note}

-- a slot is missing: its bay is empty or it has no cell
abbrev pub IsGone : Bay → Slot → Type 0
IsGone bay slot = (bay.empty ≡ true) ⊎ (slot.cell ≡ None)

-- a claim that was granted. It found a cell, unless it is to mend, and no note, unless it seizes, and it leaves no reader
pub record Claims (bay : Bay) (ask : Ask) (slot : Slot) (id : Number) (how : How) (mask : ℕ) (want : Bool) (r : Reply) (after : Slot) : Type 0 where
  pub there : bay.empty ≡ false
  pub cell : IsSome slot.cell ⊎ (how ≡ Mend)
  pub free : (slot.note ≡ None) ⊎ (how ≡ Seize)
  pub late : how ≡ Plain → bay.mode ≡ Order → max slot.read_no.0 slot.write_no.0 < id.0
  pub reply : r ≡ granted bay slot want slot.note
  pub readers : List Reader
  pub alone : readers ≡ []
  pub left : after ≡ record slot { note = Some (claimed_note ask id mask slot.note); readers = readers }

-- the note of a claim has its id
pub claimed-id : (ask : Ask) (id : Number) (mask : ℕ) (o : Option Note) → (claimed_note ask id mask o).id ≡ id
claimed-id ask id mask None = refl
claimed-id ask id mask (Some note) = refl

-- a share that was granted
pub record Shares (bay : Bay) (slot : Slot) (id : Number) (want : Bool) (r : Reply) (after : Slot) : Type 0 where
  pub there : bay.empty ≡ false
  pub cell : IsSome slot.cell
  pub free : (note : Note) → slot.note ≡ Some note → (bay.mode ≡ Order) × (id.0 ≤ note.origin.0)
  pub late : bay.mode ≡ Order → slot.write_no.0 ≤ id.0
  pub reply : r ≡ granted bay slot want None
  pub cell_kept : after.cell ≡ slot.cell
  pub note_kept : after.note ≡ slot.note
  pub last_kept : after.last ≡ slot.last
  pub write_kept : after.write_no ≡ slot.write_no
  pub read : (after.read_no ≡ slot.read_no) ⊎ ((bay.mode ≡ Order) × (after.read_no ≡ greater slot.read_no id))
  pub beside : (note : Note) → slot.note ≡ Some note → after.readers ≡ slot.readers

pub data Does (bay : Bay) (ask : Ask) (slot : Slot) : Request → Reply → Slot → Type 0 where
  -- a refusal leaves the slot
  Refuses : {what : Request} (reply : Reply) (refused : is_refused reply ≡ true) (missing : (floor : Number) → reply ≡ Missing floor → IsGone bay slot) → Does bay ask slot what reply slot
  -- but that a seizure closes a note where there is no cell
  Closes : {row : RowNo} {id : Number} {mask : ℕ} {want : Bool} (there : bay.empty ≡ false) (none : slot.cell ≡ None) →
      Does bay ask slot (Claim row id Seize mask want) (Missing slot.write_no) (record slot { note = None })
  Grants : {row : RowNo} {id : Number} {how : How} {mask : ℕ} {want : Bool} {reply : Reply} {left : Slot} (claims : Claims bay ask slot id how mask want reply left) →
      Does bay ask slot (Claim row id how mask want) reply left
  Shows : {row : RowNo} {id : Number} {want : Bool} {reply : Reply} {left : Slot} (shares : Shares bay slot id want reply left) → Does bay ask slot (Share row id want) reply left
  Holds : {row : RowNo} {id : Number} {want : Bool} (own : note_id slot.note id ≡ true) → Does bay ask slot (Confirm row id want) (Held (wanted_cell want slot)) slot
  Puts : {row : RowNo} {id n : Number} {cell : Cell} (own : note_id slot.note id ≡ true) → Does bay ask slot (Put row id n cell) Done (put_done slot id n cell).slot
  Frees : {row : RowNo} {id : Number} {n : Option Number} (own : note_id slot.note id ≡ true) → Does bay ask slot (Release row id n) Done (record slot { note = None })
  Leaves : {row : RowNo} {id : Number} {n : Option Number} (free : note_id slot.note id ≡ false) (reader : Reader) (found : find (is_reader id) slot.readers ≡ Some reader) →
      Does bay ask slot (Release row id n) Done (record slot { read_no = read_at slot n; readers = other_readers id slot.readers })

-- what refuses grants nothing
pub refused-none : (r : Reply) → is_refused r ≡ true → grant_of r ≡ None
refused-none (Granted cell read_no write_no last life seized) e = absurd (cc)
refused-none (Busy holder) e = refl
refused-none (Late above) e = refl
refused-none (Young note) e = refl
refused-none (Missing floor) e = refl
refused-none (Held cell) e = refl
refused-none (NoNote life) e = refl
refused-none Done e = refl
refused-none Fault e = refl
refused-none Emptied e = refl
refused-none Fitted e = refl

pub refused-grants : {X : Type 0} (r : Reply) → is_refused r ≡ true → IsSome (grant_of r) → X
refused-grants r refused granted = absurd (let bad : false ≡ true = subst (λ (o : Option Grant). IsSome o) (refused-none r refused) granted in cc)

-- a claim that was granted is one
pub claim-does : (bay : Bay) (ask : Ask) (slot : Slot) (row : RowNo) (id : Number) (how : How) (mask : ℕ) (want : Bool) (what : Request) (reply : Reply) (left : Slot) → Does bay ask slot what reply left →
    what ≡ Claim row id how mask want → IsSome (grant_of reply) → Claims bay ask slot id how mask want reply left
claim-does bay ask slot row id how mask want what reply left (Refuses r refused missing) is some = refused-grants r refused some
claim-does bay ask slot row id how mask want what reply left (Closes there none) is some = absurd (let bad : false ≡ true = some in cc)
claim-does bay ask slot row id how mask want what reply left (Grants {row = r} {id = by} {how = h} {mask = m} {want = w} claims) is some =
    let both : Claim r by h m w ≡ Claim row id how mask want = is in
    let one : by ≡ id = cc in
    let kind : h ≡ how = cc in
    let units : m ≡ mask = cc in
    let wants : w ≡ want = cc in
    subst (λ (x : Number). Claims bay ask slot x how mask want reply left) one
    (subst (λ (x : How). Claims bay ask slot by x mask want reply left) kind
    (subst (λ (x : ℕ). Claims bay ask slot by h x want reply left) units (subst (λ (x : Bool). Claims bay ask slot by h m x reply left) wants claims)))
claim-does bay ask slot row id how mask want what reply left (Shows shares) is some = absurd (cc)
claim-does bay ask slot row id how mask want what reply left (Holds own) is some = absurd (cc)
claim-does bay ask slot row id how mask want what reply left (Puts own) is some = absurd (cc)
claim-does bay ask slot row id how mask want what reply left (Frees own) is some = absurd (cc)
claim-does bay ask slot row id how mask want what reply left (Leaves free reader found) is some = absurd (cc)

-- and so is a share
pub share-does : (bay : Bay) (ask : Ask) (slot : Slot) (row : RowNo) (id : Number) (want : Bool) (what : Request) (reply : Reply) (left : Slot) → Does bay ask slot what reply left → what ≡ Share row id want → IsSome (grant_of reply) →
    Shares bay slot id want reply left
share-does bay ask slot row id want what reply left (Refuses r refused missing) is some = refused-grants r refused some
share-does bay ask slot row id want what reply left (Closes there none) is some = absurd (cc)
share-does bay ask slot row id want what reply left (Grants claims) is some = absurd (cc)
share-does bay ask slot row id want what reply left (Shows {row = r} {id = by} {want = w} shares) is some =
    let both : Share r by w ≡ Share row id want = is in
    let one : by ≡ id = cc in
    let same : w ≡ want = cc in
    subst (λ (x : Number). Shares bay slot x want reply left) one (subst (λ (x : Bool). Shares bay slot by x reply left) same shares)
share-does bay ask slot row id want what reply left (Holds own) is some = absurd (cc)
share-does bay ask slot row id want what reply left (Puts own) is some = absurd (cc)
share-does bay ask slot row id want what reply left (Frees own) is some = absurd (cc)
share-does bay ask slot row id want what reply left (Leaves free reader found) is some = absurd (cc)

-- where no other reader is found none is left
none-others : (id : Number) (xs : List Reader) → find (λ reader. not (is_reader id reader)) xs ≡ None → other_readers id xs ≡ []
none-others id [] e = refl
none-others id (x ∷ xs) e = by (not (is_reader id x)) e (none-others id xs)
  where
    by : (b : Bool) → (if b then Some x else find (λ reader. not (is_reader id reader)) xs) ≡ None → (find (λ reader. not (is_reader id reader)) xs ≡ None → other_readers id xs ≡ []) →
        (if b then x ∷ other_readers id xs else other_readers id xs) ≡ []
    by true found rest = absurd (cc)
    by false found rest = rest found

module _ (bay : Bay) (ask : Ask) (slot : Slot) where
  abbrev As : Request → SlotOutcome → Type 0
  As what o = Does bay ask slot what o.reply o.slot

  as-if : (what : Request) (o p : SlotOutcome) (b : Bool) → (b ≡ true → As what o) → (b ≡ false → As what p) → As what (if b then o else p)
  as-if what o p true x y = x refl
  as-if what o p false x y = y refl

  -- a refusal that isn't for want of a cell
  says : (what : Request) (reply : Reply) → is_refused reply ≡ true → ((floor : Number) → reply ≡ Missing floor → IsGone bay slot) → As what (keeps slot reply)
  says what reply refused missing = Refuses reply refused missing

  as-read : (what : Request) (want fails : Bool) (o : SlotOutcome) → As what o → As what (reads want fails slot o)
  as-read what want fails o x = as-if what (keeps slot Fault) o (is_some (wanted_cell want slot) && fails) (λ e. Refuses Fault refl (λ floor bad. absurd (cc))) (λ e. x)

  -- what the floor tells
  none-floor : (c : Option Cell) → slot_floor slot c ≡ None → IsSome c
  none-floor None e = absurd (cc)
  none-floor (Some cell) e = refl

  some-floor : (c : Option Cell) (floor : Number) → slot_floor slot c ≡ Some floor → c ≡ None
  some-floor None floor e = refl
  some-floor (Some cell) floor e = absurd (cc)

  there-by : (b : Bool) → (if b then Some bay.high else slot_floor slot slot.cell) ≡ None → (b ≡ false) × IsSome slot.cell
  there-by true e = absurd (cc)
  there-by false e = (refl, none-floor slot.cell e)

  gone-by : (b : Bool) (floor : Number) → bay.empty ≡ b → (if b then Some bay.high else slot_floor slot slot.cell) ≡ Some floor → IsGone bay slot
  gone-by true floor was e = inl was
  gone-by false floor was e = inr (some-floor slot.cell floor e)

  there : missing_floor bay slot ≡ None → (bay.empty ≡ false) × IsSome slot.cell
  there e = there-by bay.empty e

  gone : (floor : Number) → missing_floor bay slot ≡ Some floor → IsGone bay slot
  gone floor e = gone-by bay.empty floor refl e

  -- Share
  module _ (row : RowNo) (id : Number) (want fails : Bool) (here : (bay.empty ≡ false) × IsSome slot.cell) where
    sh : Request
    sh = Share row id want

    share-locks : (note : Option Note) (other : Option Reader) → bay.mode ≡ Lock → slot.note ≡ note → As (Share row id want) (share_lock bay slot ask id want fails note other)
    share-locks (Some note) other lock e = Refuses (Busy note) refl (λ floor bad. absurd (cc))
    share-locks None (Some reader) lock e = Refuses (Busy (reader_note reader)) refl (λ floor bad. absurd (cc))
    share-locks None None lock e = as-read (Share row id want) want fails (share_granted_lock bay slot ask id want) (Shows (record {
      there = here.0;
      cell = here.1;
      free = λ note is. absurd (cc);
      late = λ order. absurd (cc);
      reply = refl;
      cell_kept = refl;
      note_kept = refl;
      last_kept = refl;
      write_kept = refl;
      read = inl refl;
      beside = λ note is. absurd (cc);
    }))

    share-unnoted : bay.mode ≡ Order → ((note : Note) → slot.note ≡ Some note → id.0 ≤ note.origin.0) → As (Share row id want) (share_unnoted bay slot id want fails)
    share-unnoted order low = as-if (Share row id want) (keeps slot (Late slot.write_no)) (reads want fails slot (share_granted_order bay slot id want)) (nat_lt id.0 slot.write_no.0)
        (λ e. Refuses (Late slot.write_no) refl (λ floor bad. absurd (cc)))
        (λ e. as-read (Share row id want) want fails (share_granted_order bay slot id want) (Shows (record {
          there = here.0;
          cell = here.1;
          free = λ note is. (order, low note is);
          late = λ o. grind (arith, nat_tests);
          reply = refl;
          cell_kept = refl;
          note_kept = refl;
          last_kept = refl;
          write_kept = refl;
          read = inr (order, refl);
          beside = λ note is. refl;
        })))

    share-orders : (note : Option Note) → bay.mode ≡ Order → slot.note ≡ note → As (Share row id want) (share_order bay slot id want fails note)
    share-orders None order e = share-unnoted order (λ note is. absurd (cc))
    share-orders (Some note) order e = as-if (Share row id want) (keeps slot (Busy note)) (share_unnoted bay slot id want fails) (nat_lt note.origin.0 id.0)
        (λ low. Refuses (Busy note) refl (λ floor bad. absurd (cc)))
        (λ high. share-unnoted order (λ other is. let same : other ≡ note = cc in let le : id.0 ≤ note.origin.0 = grind (arith, nat_tests) in subst (λ (x : Note). id.0 ≤ x.origin.0) (sym same) le))

    share-bys : (m : Mode) → bay.mode ≡ m → As (Share row id want) (share_by m bay slot ask id want fails)
    share-bys Lock e = share-locks slot.note (find (is_same_host ask id) slot.readers) e refl
    share-bys Order e = share-orders slot.note e refl

  shares-do : (row : RowNo) (id : Number) (want fails : Bool) (floor : Option Number) → missing_floor bay slot ≡ floor → As (Share row id want) (share_at bay slot ask id want fails floor)
  shares-do row id want fails (Some floor) e = Refuses (Missing floor) refl (λ n is. gone floor e)
  shares-do row id want fails None e = share-bys row id want fails (there e) bay.mode refl

  -- Claim
  module _ (row : RowNo) (id : Number) (mask : ℕ) (want fails : Bool) where
    late-plain : (how : How) → is_late how bay.mode id slot ≡ false → how ≡ Plain → bay.mode ≡ Order → max slot.read_no.0 slot.write_no.0 < id.0
    late-plain how e plain order = let early : is_late Plain Order id slot ≡ false = sym (ap (λ (h : How). is_late h bay.mode id slot) plain ∙ ap (λ (m : Mode). is_late Plain m id slot) order) ∙ e in grind (arith, nat_tests)

    claim-frees : (how : How) → bay.empty ≡ false → IsSome slot.cell ⊎ (how ≡ Mend) → slot.note ≡ None → find (λ reader. not (is_reader id reader)) slot.readers ≡ None →
        As (Claim row id how mask want) (claim_free bay slot ask id how mask want fails)
    claim-frees how here cell free lone = as-if (Claim row id how mask want) (keeps slot (Late (greater slot.read_no slot.write_no))) (reads want fails slot (claim_granted bay slot ask id mask want)) (is_late how bay.mode id slot)
        (λ e. Refuses (Late (greater slot.read_no slot.write_no)) refl (λ floor bad. absurd (cc)))
        (λ e. as-read (Claim row id how mask want) want fails (claim_granted bay slot ask id mask want) (Grants (record {
          there = here;
          cell = cell;
          free = inl free;
          late = late-plain how e;
          reply = ap (granted bay slot want) (sym free);
          readers = other_readers id slot.readers;
          alone = none-others id slot.readers lone;
          left = ap (λ (o : Option Note). record slot { note = Some (claimed_note ask id mask o); readers = other_readers id slot.readers }) (sym free);
        })))

    claim-noted : (how : How) → bay.empty ≡ false → IsSome slot.cell ⊎ (how ≡ Mend) → (note : Option Note) (other : Option Reader) → slot.note ≡ note →
        find (λ reader. not (is_reader id reader)) slot.readers ≡ other → As (Claim row id how mask want) (claim_noted bay slot ask id how mask want fails note other)
    claim-noted how here cell (Some note) other e lone = Refuses (Busy note) refl (λ floor bad. absurd (cc))
    claim-noted how here cell None (Some reader) e lone = Refuses (Busy (reader_note reader)) refl (λ floor bad. absurd (cc))
    claim-noted how here cell None None e lone = claim-frees how here cell e lone

    claim-plain : (floor : Option Number) → missing_floor bay slot ≡ floor → As (Claim row id Plain mask want) (claim_at bay slot ask id Plain mask want fails floor)
    claim-plain (Some floor) e = Refuses (Missing floor) refl (λ n is. gone floor e)
    claim-plain None e = claim-noted Plain (there e).0 (inl (there e).1) slot.note (find (λ reader. not (is_reader id reader)) slot.readers) refl refl

    claim-mend : (b : Bool) → bay.empty ≡ b → As (Claim row id Mend mask want) (claim_at bay slot ask id Mend mask want fails (if b then Some bay.high else None))
    claim-mend true e = Refuses (Missing bay.high) refl (λ n is. inl e)
    claim-mend false e = claim-noted Mend e (inr refl) slot.note (find (λ reader. not (is_reader id reader)) slot.readers) refl refl

    seize-grants : bay.empty ≡ false → IsSome slot.cell → (note : Option Note) → slot.note ≡ note → As (Claim row id Seize mask want) (seize_granted bay slot ask id mask want note)
    seize-grants here cell None e = Grants (record {
      there = here;
      cell = inl cell;
      free = inr refl;
      late = λ bad. absurd (cc);
      reply = ap (granted bay slot want) (sym e);
      readers = [];
      alone = refl;
      left = ap (λ (o : Option Note). record slot { note = Some (claimed_note ask id mask o); readers = [] }) (sym e);
    })
    seize-grants here cell (Some note) e = Grants (record {
      there = here;
      cell = inl cell;
      free = inr refl;
      late = λ bad. absurd (cc);
      reply = ap (granted bay slot want) (sym e);
      readers = [];
      alone = refl;
      left = ap (λ (o : Option Note). record slot { note = Some (claimed_note ask id mask o); readers = [] }) (sym e);
    })

    seize-unread : bay.empty ≡ false → IsSome slot.cell → (reader : Option Reader) → As (Claim row id Seize mask want) (seize_unread bay slot ask id mask want fails reader)
    seize-unread here cell (Some reader) = Refuses (Young (reader_note reader)) refl (λ floor bad. absurd (cc))
    seize-unread here cell None = as-read (Claim row id Seize mask want) want fails (seize_granted bay slot ask id mask want slot.note) (seize-grants here cell slot.note refl)

    seize-blank : bay.empty ≡ false → (c : Option Cell) → slot.cell ≡ c → (reader : Option Reader) →
        As (Claim row id Seize mask want) (seize_blank slot (slot_floor slot c) (seize_unread bay slot ask id mask want fails reader))
    seize-blank here None e reader = Closes here e
    seize-blank here (Some cell) e reader = seize-unread here (ap is_some e) reader

    seize-noted : bay.empty ≡ false → (young : Option Note) → As (Claim row id Seize mask want) (seize_noted bay slot ask id mask want fails young)
    seize-noted here (Some note) = Refuses (Young note) refl (λ floor bad. absurd (cc))
    seize-noted here None = seize-blank here slot.cell refl (find (λ reader. not (may_seize bay ask reader.host reader.moment)) slot.readers)

    seizes : (b : Bool) → bay.empty ≡ b → As (Claim row id Seize mask want) (if b then keeps slot (Missing bay.high) else seize_noted bay slot ask id mask want fails (young_note bay ask slot.note))
    seizes true e = Refuses (Missing bay.high) refl (λ n is. inl e)
    seizes false e = seize-noted e (young_note bay ask slot.note)

    claims-do : (how : How) → As (Claim row id how mask want) (claim_rule how bay slot ask id mask want fails)
    claims-do Plain = claim-plain (missing_floor bay slot) refl
    claims-do Mend = claim-mend bay.empty refl
    claims-do Seize = seizes bay.empty refl

  -- Confirm, Put and Release
  confirms-do : (row : RowNo) (id : Number) (want fails : Bool) → As (Confirm row id want) (confirm_rule bay slot id want fails)
  confirms-do row id want fails = as-if (Confirm row id want) (reads want fails slot (keeps slot (Held (wanted_cell want slot)))) (confirm_missing bay slot (missing_floor bay slot)) (note_id slot.note id)
      (λ own. as-read (Confirm row id want) want fails (keeps slot (Held (wanted_cell want slot))) (Holds own))
      (λ free. by (missing_floor bay slot) refl)
    where
      by : (floor : Option Number) → missing_floor bay slot ≡ floor → As (Confirm row id want) (confirm_missing bay slot floor)
      by (Some floor) e = Refuses (Missing floor) refl (λ n is. gone floor e)
      by None e = Refuses (NoNote bay.life) refl (λ floor bad. absurd (cc))

  puts-do : (row : RowNo) (id n : Number) (cell : Cell) (fails : Bool) → As (Put row id n cell) (put_rule bay slot id n cell fails)
  puts-do row id n cell fails = as-if (Put row id n cell) (if fails then keeps slot Fault else put_done slot id n cell) (keeps slot (NoNote bay.life)) (note_id slot.note id)
      (λ own. as-if (Put row id n cell) (keeps slot Fault) (put_done slot id n cell) fails (λ e. Refuses Fault refl (λ floor bad. absurd (cc))) (λ e. Puts own))
      (λ free. Refuses (NoNote bay.life) refl (λ floor bad. absurd (cc)))

  releases-do : (row : RowNo) (id : Number) (n : Option Number) → As (Release row id n) (release_rule bay slot id n)
  releases-do row id n = as-if (Release row id n) (record { reply = Done; slot = record slot { note = None } }) (release_reader bay slot id n (find (is_reader id) slot.readers)) (note_id slot.note id)
      (λ own. Frees own) (λ free. by free (find (is_reader id) slot.readers) refl)
    where
      by : note_id slot.note id ≡ false → (reader : Option Reader) → find (is_reader id) slot.readers ≡ reader → As (Release row id n) (release_reader bay slot id n reader)
      by free None e = Refuses (NoNote bay.life) refl (λ floor bad. absurd (cc))
      by free (Some reader) e = Leaves free reader e

  pub slot-does : (fails : Bool) (what : Request) (row : RowNo) → row_of what ≡ Some row → Does bay ask slot what (slot_rule bay slot ask fails what).reply (slot_rule bay slot ask fails what).slot
  slot-does fails (Share r id want) row is = shares-do r id want fails (missing_floor bay slot) refl
  slot-does fails (Claim r id how mask want) row is = claims-do r id mask want fails how
  slot-does fails (Confirm r id want) row is = confirms-do r id want fails
  slot-does fails (Put r id n cell) row is = puts-do r id n cell fails
  slot-does fails (Release r id n) row is = releases-do r id n
  slot-does fails Lose row is = absurd (cc)
  slot-does fails Fit row is = absurd (cc)
