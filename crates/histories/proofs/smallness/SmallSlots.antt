-- Where a request carries small numbers and a bay has no greater ones, its reply shows none, and it has none afterwards.
use Rattle.std.proofs.Common.{ℕ, zero, suc, ◌≤◌, Bool, true, false, if◌then◌else◌, not, nat_lt, List, [], ◌∷◌, map, find, slice_set, slice_index_or, replicate, Option, Some, None, arith}
use Rattle.std.specs.List.{AllByRecursion}
use Rattle.std.proofs.lemmas.List.Elements.{recursion_from_All, All-from_recursion, All-set}
use Rattle.raid_base.specs.declared.cells.Cell.{Cell}
use Rattle.raid_base.specs.declared.numbers.Number.{Number}
use Rattle.raid_base.specs.declared.numbers.RowNo.{RowNo}
use Rattle.raid_base.specs.declared.messages.Mode.{Mode}
use Rattle.raid_base.specs.declared.messages.Mode.TheVariants.{Lock, Order}
use Rattle.raid_base.specs.declared.messages.How.{How}
use Rattle.raid_base.specs.declared.messages.How.TheVariants.{Plain, Seize, Mend}
use Rattle.raid_base.specs.declared.messages.Note.{Note}
use Rattle.raid_base.specs.declared.messages.Ask.{Ask}
use Rattle.raid_base.specs.declared.messages.Reply.{Reply}
use Rattle.raid_base.specs.declared.messages.Reply.TheVariants.{Granted, Busy, Late, Young, Missing, Held, NoNote, Done, Fault, Emptied, Fitted}
use Rattle.raid_base.specs.declared.messages.Request.{Request}
use Rattle.raid_base.specs.declared.messages.Request.TheVariants.{Share, Claim, Confirm, Put, Release, Lose, Fit}
use Rattle.raid_base.specs.Numbers.{number, greater}
use Rattle.slot_rules.specs.declared.Reader.{Reader}
use Rattle.slot_rules.specs.Slots.{Slot, Bay, first_slot, bare_slot, first_bay, slot_of, reader_note}
use Rattle.slot_rules.specs.Rules.{SlotOutcome, Outcome, keeps, reads, wanted_cell, slot_floor, missing_floor, is_reader, note_id, is_same_host, may_seize, young_note, share_lock, share_granted_lock, share_order, share_unnoted, share_granted_order, share_by, share_at, share_rule, claim_granted, claim_free, claim_noted, claim_at, seize_granted, seize_unread, seize_blank, seize_noted, claim_rule, confirm_missing, confirm_rule, put_done, put_rule, read_at, release_reader, release_rule, raised, with_slot, lose_rule, fit_rule, rule_of, rule}

module _ (most : ℕ) where
  -- a number, if there is one
  abbrev pub IsLow : Option Number → Type 0
  IsLow None = Unit {0}
  IsLow (Some n) = n.0 ≤ most

  abbrev pub LowOrigin : Option Note → Type 0
  LowOrigin None = Unit {0}
  LowOrigin (Some note) = note.origin.0 ≤ most

  -- the numbers of a request
  abbrev pub LowRequest : Request → Type 0
  LowRequest (Share row id want) = id.0 ≤ most
  LowRequest (Claim row id how mask want) = id.0 ≤ most
  LowRequest (Confirm row id want) = id.0 ≤ most
  LowRequest (Put row id n cell) = (id.0 ≤ most) × (n.0 ≤ most)
  LowRequest (Release row id n) = (id.0 ≤ most) × IsLow n
  LowRequest Lose = Unit {0}
  LowRequest Fit = Unit {0}

  -- those that a reply shows
  abbrev pub LowReply : Reply → Type 0
  LowReply (Granted cell read_no write_no last life seized) = (read_no.0 ≤ most) × (write_no.0 ≤ most) × LowOrigin seized
  LowReply (Late above) = above.0 ≤ most
  LowReply (Missing floor) = floor.0 ≤ most
  LowReply (Busy holder) = Unit {0}
  LowReply (Young note) = Unit {0}
  LowReply (Held cell) = Unit {0}
  LowReply (NoNote life) = Unit {0}
  LowReply Done = Unit {0}
  LowReply Fault = Unit {0}
  LowReply Emptied = Unit {0}
  LowReply Fitted = Unit {0}

  -- those of a slot, and of a bay
  pub record LowSlot (slot : Slot) : Type 0 where
    pub read : slot.read_no.0 ≤ most
    pub write : slot.write_no.0 ≤ most
    pub origin : LowOrigin slot.note

  pub record LowBay (bay : Bay) : Type 0 where
    pub high : bay.high.0 ≤ most
    pub slots : AllByRecursion LowSlot bay.slots

  pub record Low (o : SlotOutcome) : Type 0 where
    pub reply : LowReply o.reply
    pub slot : LowSlot o.slot

  low-if : (o p : SlotOutcome) (b : Bool) → Low o → Low p → Low (if b then o else p)
  low-if o p true x y = x
  low-if o p false x y = y

  bare-low : (n : Number) → n.0 ≤ most → LowSlot (bare_slot n)
  bare-low n low = record { read = low; write = low; origin = tt }

  zero-low : LowSlot (bare_slot (number 0))
  zero-low = bare-low (number 0) (omega arith)

  module _ (bay : Bay) (high : bay.high.0 ≤ most) (slot : Slot) (s : LowSlot slot) where
    kept : (reply : Reply) → LowReply reply → Low (keeps slot reply)
    kept reply low = record { reply = low; slot = s }

    read-low : (want fails : Bool) (o : SlotOutcome) → Low o → Low (reads want fails slot o)
    read-low want fails o low = low-if (keeps slot Fault) o _ (kept Fault tt) low

    -- a missing slot
    floor-low : (cell : Option Cell) → IsLow (slot_floor slot cell)
    floor-low None = s.write
    floor-low (Some cell) = tt

    missing-low : (empty : Bool) (cell : Option Cell) → IsLow (if empty then Some bay.high else slot_floor slot cell)
    missing-low true cell = high
    missing-low false cell = floor-low cell

    -- Share
    module _ (ask : Ask) (id : Number) (id_low : id.0 ≤ most) (want fails : Bool) where
      lock-low : (note : Option Note) (reader : Option Reader) → Low (share_lock bay slot ask id want fails note reader)
      lock-low (Some note) reader = kept (Busy note) tt
      lock-low None (Some reader) = kept (Busy (reader_note reader)) tt
      lock-low None None = read-low want fails (share_granted_lock bay slot ask id want)
          (record { reply = (s.read, s.write, tt); slot = record { read = s.read; write = s.write; origin = s.origin } })

      unnoted-low : Low (share_unnoted bay slot id want fails)
      unnoted-low = low-if (keeps slot (Late slot.write_no)) (reads want fails slot (share_granted_order bay slot id want)) _ (kept (Late slot.write_no) s.write)
          (read-low want fails (share_granted_order bay slot id want)
          (record { reply = (s.read, s.write, tt); slot = record { read = omega (arith, s.read, id_low); write = s.write; origin = s.origin } }))

      order-low : (note : Option Note) → Low (share_order bay slot id want fails note)
      order-low None = unnoted-low
      order-low (Some note) = low-if (keeps slot (Busy note)) (share_unnoted bay slot id want fails) _ (kept (Busy note) tt) unnoted-low

      share-by-low : (mode : Mode) → Low (share_by mode bay slot ask id want fails)
      share-by-low Lock = lock-low slot.note (find (is_same_host ask id) slot.readers)
      share-by-low Order = order-low slot.note

      share-at-low : (floor : Option Number) → IsLow floor → Low (share_at bay slot ask id want fails floor)
      share-at-low (Some floor) low = kept (Missing floor) low
      share-at-low None low = share-by-low bay.mode

      pub share-low : Low (share_rule bay slot ask id want fails)
      share-low = share-at-low (missing_floor bay slot) (missing-low bay.empty slot.cell)

      -- Claim
      module _ (mask : ℕ) where
        free-low : (how : How) → Low (claim_free bay slot ask id how mask want fails)
        free-low how = low-if (keeps slot (Late (greater slot.read_no slot.write_no))) (reads want fails slot (claim_granted bay slot ask id mask want)) _
            (kept (Late (greater slot.read_no slot.write_no)) (omega (arith, s.read, s.write)))
            (read-low want fails (claim_granted bay slot ask id mask want)
            (record { reply = (s.read, s.write, tt); slot = record { read = s.read; write = s.write; origin = id_low } }))

        noted-low : (how : How) (note : Option Note) (reader : Option Reader) → Low (claim_noted bay slot ask id how mask want fails note reader)
        noted-low how (Some note) reader = kept (Busy note) tt
        noted-low how None (Some reader) = kept (Busy (reader_note reader)) tt
        noted-low how None None = free-low how

        claim-at-low : (how : How) (floor : Option Number) → IsLow floor → Low (claim_at bay slot ask id how mask want fails floor)
        claim-at-low how (Some floor) low = kept (Missing floor) low
        claim-at-low how None low = noted-low how slot.note (find (λ reader. not (is_reader id reader)) slot.readers)

        mend-floor : (empty : Bool) → IsLow (if empty then Some bay.high else None)
        mend-floor true = high
        mend-floor false = tt

        seized-low : (note : Option Note) → LowOrigin note → Low (seize_granted bay slot ask id mask want note)
        seized-low None low = record { reply = (s.read, s.write, tt); slot = record { read = s.read; write = s.write; origin = id_low } }
        seized-low (Some note) low = record { reply = (s.read, s.write, low); slot = record { read = s.read; write = s.write; origin = low } }

        unread-low : (reader : Option Reader) → Low (seize_unread bay slot ask id mask want fails reader)
        unread-low (Some reader) = kept (Young (reader_note reader)) tt
        unread-low None = read-low want fails (seize_granted bay slot ask id mask want slot.note) (seized-low slot.note s.origin)

        blank-low : (floor : Option Number) (o : SlotOutcome) → IsLow floor → Low o → Low (seize_blank slot floor o)
        blank-low (Some floor) o low x = record { reply = low; slot = record { read = s.read; write = s.write; origin = tt } }
        blank-low None o low x = x

        seize-noted-low : (young : Option Note) → Low (seize_noted bay slot ask id mask want fails young)
        seize-noted-low (Some note) = kept (Young note) tt
        seize-noted-low None =
            let reader = find (λ reader. not (may_seize bay ask reader.host reader.moment)) slot.readers in
            blank-low (slot_floor slot slot.cell) (seize_unread bay slot ask id mask want fails reader) (floor-low slot.cell) (unread-low reader)

        pub claim-low : (how : How) → Low (claim_rule how bay slot ask id mask want fails)
        claim-low Plain = claim-at-low Plain (missing_floor bay slot) (missing-low bay.empty slot.cell)
        claim-low Mend = claim-at-low Mend (if bay.empty then Some bay.high else None) (mend-floor bay.empty)
        claim-low Seize =
            low-if (keeps slot (Missing bay.high)) (seize_noted bay slot ask id mask want fails (young_note bay ask slot.note)) bay.empty
            (kept (Missing bay.high) high) (seize-noted-low (young_note bay ask slot.note))

    -- Confirm
    confirm-missing-low : (floor : Option Number) → IsLow floor → Low (confirm_missing bay slot floor)
    confirm-missing-low (Some floor) low = kept (Missing floor) low
    confirm-missing-low None low = kept (NoNote bay.life) tt

    pub confirm-low : (id : Number) (want fails : Bool) → Low (confirm_rule bay slot id want fails)
    confirm-low id want fails =
        low-if (reads want fails slot (keeps slot (Held (wanted_cell want slot)))) (confirm_missing bay slot (missing_floor bay slot)) (note_id slot.note id)
        (read-low want fails (keeps slot (Held (wanted_cell want slot))) (kept (Held (wanted_cell want slot)) tt))
        (confirm-missing-low (missing_floor bay slot) (missing-low bay.empty slot.cell))

    -- Put
    pub put-low : (id n : Number) (cell : Cell) (fails : Bool) → n.0 ≤ most → Low (put_rule bay slot id n cell fails)
    put-low id n cell fails low =
        low-if (if fails then keeps slot Fault else put_done slot id n cell) (keeps slot (NoNote bay.life)) (note_id slot.note id)
        (low-if (keeps slot Fault) (put_done slot id n cell) fails (kept Fault tt)
        (record { reply = tt; slot = record { read = s.read; write = omega (arith, s.write, low); origin = tt } }))
        (kept (NoNote bay.life) tt)

    -- Release
    read-at-low : (n : Option Number) → IsLow n → (read_at slot n).0 ≤ most
    read-at-low None low = s.read
    read-at-low (Some n) low = omega (arith, s.read, low)

    reader-low : (id : Number) (n : Option Number) (reader : Option Reader) → IsLow n → Low (release_reader bay slot id n reader)
    reader-low id n None low = kept (NoNote bay.life) tt
    reader-low id n (Some reader) low = record { reply = tt; slot = record { read = read-at-low n low; write = s.write; origin = s.origin } }

    pub release-low : (id : Number) (n : Option Number) → IsLow n → Low (release_rule bay slot id n)
    release-low id n low =
        low-if (record { reply = Done; slot = record slot { note = None } }) (release_reader bay slot id n (find (is_reader id) slot.readers)) (note_id slot.note id)
        (record { reply = tt; slot = record { read = s.read; write = s.write; origin = tt } })
        (reader-low id n (find (is_reader id) slot.readers) low)

  -- Bays
  raised-low : (high before after : Number) → high.0 ≤ most → after.0 ≤ most → (raised high before after).0 ≤ most
  raised-low high before after low after_low = by (nat_lt before.0 after.0)
    where
      by : (b : Bool) → (if b then greater high after else high).0 ≤ most
      by true = omega (arith, low, after_low)
      by false = low

  slot-low : (slots : List Slot) (k : ℕ) → AllByRecursion LowSlot slots → LowSlot (slice_index_or slots k (bare_slot (number 0)))
  slot-low [] k all = zero-low
  slot-low (slot ∷ slots) zero all = all.0
  slot-low (slot ∷ slots) (suc k) all = slot-low slots k all.1

  set-low : (slots : List Slot) (k : ℕ) (slot : Slot) → AllByRecursion LowSlot slots → LowSlot slot → AllByRecursion LowSlot (slice_set slots k slot)
  set-low slots k slot all low =
      recursion_from_All LowSlot (slice_set slots k slot) (All-set LowSlot slots k slot low (All-from_recursion LowSlot slots all))

  map-low : (n : Number) (slots : List Slot) → n.0 ≤ most → AllByRecursion LowSlot (map (λ _. bare_slot n) slots)
  map-low n [] low = tt
  map-low n (slot ∷ slots) low = (bare-low n low, map-low n slots low)

  pub record LowOutcome (o : Outcome) : Type 0 where
    pub reply : LowReply o.reply
    pub bay : LowBay o.bay

  with-low : (bay : Bay) (row : RowNo) (old : Slot) (o : SlotOutcome) → LowBay bay → Low o → LowOutcome (with_slot bay row old o)
  with-low bay row old o b low = record {
    reply = low.reply;
    bay = record {
      high = raised-low (raised bay.high old.read_no o.slot.read_no) old.write_no o.slot.write_no
          (raised-low bay.high old.read_no o.slot.read_no b.high low.slot.read) low.slot.write;
      slots = set-low bay.slots row.0 o.slot b.slots low.slot;
    };
  }

  lose-low : (bay : Bay) (empty : Bool) → LowBay bay → LowOutcome (lose_rule bay empty)
  lose-low bay true b = record { reply = tt; bay = b }
  lose-low bay false b = record { reply = tt; bay = record { high = b.high; slots = map-low (number 0) bay.slots (omega arith) } }

  fit-low : (bay : Bay) (empty : Bool) → LowBay bay → LowOutcome (fit_rule bay empty)
  fit-low bay true b = record { reply = tt; bay = record { high = b.high; slots = map-low bay.high bay.slots b.high } }
  fit-low bay false b = record { reply = tt; bay = b }

  there-low : (bay : Bay) (row : RowNo) → LowBay bay → LowSlot (slot_of bay row)
  there-low bay row b = slot-low bay.slots row.0 b.slots

  rule-of-low : (bay : Bay) (ask : Ask) (fails : Bool) (what : Request) → LowBay bay → LowRequest what → LowOutcome (rule_of bay ask fails what)
  rule-of-low bay ask fails (Share row id want) b low =
      with-low bay row (slot_of bay row) (share_rule bay (slot_of bay row) ask id want fails) b (share-low bay b.high (slot_of bay row) (there-low bay row b) ask id low want fails)
  rule-of-low bay ask fails (Claim row id how mask want) b low =
      with-low bay row (slot_of bay row) (claim_rule how bay (slot_of bay row) ask id mask want fails) b
      (claim-low bay b.high (slot_of bay row) (there-low bay row b) ask id low want fails mask how)
  rule-of-low bay ask fails (Confirm row id want) b low =
      with-low bay row (slot_of bay row) (confirm_rule bay (slot_of bay row) id want fails) b (confirm-low bay b.high (slot_of bay row) (there-low bay row b) id want fails)
  rule-of-low bay ask fails (Put row id n cell) b low =
      with-low bay row (slot_of bay row) (put_rule bay (slot_of bay row) id n cell fails) b (put-low bay b.high (slot_of bay row) (there-low bay row b) id n cell fails low.1)
  rule-of-low bay ask fails (Release row id n) b low =
      with-low bay row (slot_of bay row) (release_rule bay (slot_of bay row) id n) b (release-low bay b.high (slot_of bay row) (there-low bay row b) id n low.1)
  rule-of-low bay ask fails Lose b low = lose-low bay bay.empty b
  rule-of-low bay ask fails Fit b low = fit-low bay bay.empty b

  pub rule-low : (bay : Bay) (ask : Ask) (fails : Bool) → LowBay bay → LowRequest ask.what → LowOutcome (rule bay ask fails)
  rule-low bay ask fails b low = rule-of-low bay ask fails ask.what b low

  first-low : (rows : ℕ) → AllByRecursion LowSlot (replicate rows first_slot)
  first-low zero = tt
  first-low (suc rows) = (record { read = omega arith; write = omega arith; origin = tt }, first-low rows)

  pub first-bay-low : (mode : Mode) (rows patience : ℕ) → LowBay (first_bay mode rows patience)
  first-bay-low mode rows patience = record { high = omega arith; slots = first-low rows }

-- more is allowed
origin-more : (most more : ℕ) → most ≤ more → (note : Option Note) → LowOrigin most note → LowOrigin more note
origin-more most more le None low = tt
origin-more most more le (Some note) low = omega (arith, le, low)

slots-more : (most more : ℕ) → most ≤ more → (slots : List Slot) → AllByRecursion (LowSlot most) slots → AllByRecursion (LowSlot more) slots
slots-more most more le [] all = tt
slots-more most more le (slot ∷ slots) all = (
  record { read = omega (arith, le, (all.0).read); write = omega (arith, le, (all.0).write); origin = origin-more most more le slot.note (all.0).origin },
  slots-more most more le slots all.1,
)

pub bay-more : (most more : ℕ) → most ≤ more → (bay : Bay) → LowBay most bay → LowBay more bay
bay-more most more le bay b = record { high = omega (arith, le, b.high); slots = slots-more most more le bay.slots b.slots }
