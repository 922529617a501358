-- Where all that ask are so, so is each whose note or reader stands in a slot, and each that a reply names.
use Rattle.std.proofs.Common.{ℕ, zero, suc, Bool, true, false, if◌then◌else◌, not, List, [], ◌∷◌, ◌++◌, map, find, filter, slice_set, slice_index_or, replicate, Option, Some, None}
use Rattle.std.specs.List.{AllByRecursion}
use Rattle.std.proofs.lemmas.List.Elements.{recursion_from_All, All-from_recursion, All-set}
use Rattle.raid_base.specs.declared.cells.Cell.{Cell}
use Rattle.raid_base.specs.declared.numbers.Number.{Number}
use Rattle.raid_base.specs.declared.numbers.HostNo.{HostNo}
use Rattle.raid_base.specs.declared.numbers.RowNo.{RowNo}
use Rattle.raid_base.specs.declared.messages.Mode.{Mode}
use Rattle.raid_base.specs.declared.messages.Mode.TheVariants.{Lock, Order}
use Rattle.raid_base.specs.declared.messages.How.{How}
use Rattle.raid_base.specs.declared.messages.How.TheVariants.{Plain, Seize, Mend}
use Rattle.raid_base.specs.declared.messages.Note.{Note}
use Rattle.raid_base.specs.declared.messages.Ask.{Ask}
use Rattle.raid_base.specs.declared.messages.Reply.{Reply}
use Rattle.raid_base.specs.declared.messages.Reply.TheVariants.{Granted, Busy, Late, Young, Missing, Held, NoNote, Done, Fault, Emptied, Fitted}
use Rattle.raid_base.specs.declared.messages.Request.{Request}
use Rattle.raid_base.specs.declared.messages.Request.TheVariants.{Share, Claim, Confirm, Put, Release, Lose, Fit}
use Rattle.raid_base.specs.Numbers.{number, greater}
use Rattle.slot_rules.specs.declared.Reader.{Reader}
use Rattle.slot_rules.specs.Slots.{Slot, Bay, first_slot, bare_slot, first_bay, slot_of, reader_note}
use Rattle.slot_rules.specs.Rules.{SlotOutcome, Outcome, keeps, reads, wanted_cell, slot_floor, missing_floor, is_reader, note_id, is_same_host, may_seize, young_note, reader_of, with_reader, share_lock, share_granted_lock, share_order, share_unnoted, share_granted_order, share_by, share_at, share_rule, claim_granted, claim_free, claim_noted, claim_at, seize_granted, seize_unread, seize_blank, seize_noted, claim_rule, confirm_missing, confirm_rule, put_done, put_rule, release_reader, release_rule, with_slot, lose_rule, fit_rule, rule_of, rule}

module _ (P : HostNo → Number → Type 0) where
  -- of a note, if there is one, and of a reader
  abbrev pub IsNoted : Option Note → Type 0
  IsNoted None = Unit {0}
  IsNoted (Some note) = P note.host note.id

  abbrev pub IsRead : Reader → Type 0
  IsRead reader = P reader.host reader.id

  abbrev pub IsReadIfAny : Option Reader → Type 0
  IsReadIfAny None = Unit {0}
  IsReadIfAny (Some reader) = IsRead reader

  -- the one that asks
  abbrev pub AsksSo : HostNo → Request → Type 0
  AsksSo host (Share row id want) = P host id
  AsksSo host (Claim row id how mask want) = P host id
  AsksSo host (Confirm row id want) = Unit {0}
  AsksSo host (Put row id n cell) = Unit {0}
  AsksSo host (Release row id n) = Unit {0}
  AsksSo host Lose = Unit {0}
  AsksSo host Fit = Unit {0}

  -- those that a reply names
  abbrev pub NamesSo : Reply → Type 0
  NamesSo (Granted cell read_no write_no last life seized) = Unit {0}
  NamesSo (Late above) = Unit {0}
  NamesSo (Missing floor) = Unit {0}
  NamesSo (Busy holder) = P holder.host holder.id
  NamesSo (Young note) = P note.host note.id
  NamesSo (Held cell) = Unit {0}
  NamesSo (NoNote life) = Unit {0}
  NamesSo Done = Unit {0}
  NamesSo Fault = Unit {0}
  NamesSo Emptied = Unit {0}
  NamesSo Fitted = Unit {0}

  -- those of a slot, and of a bay
  pub record SlotSo (slot : Slot) : Type 0 where
    pub note : IsNoted slot.note
    pub readers : AllByRecursion IsRead slot.readers

  abbrev pub BaySo : Bay → Type 0
  BaySo bay = AllByRecursion SlotSo bay.slots

  pub record So (o : SlotOutcome) : Type 0 where
    pub reply : NamesSo o.reply
    pub slot : SlotSo o.slot

  so-if : (o p : SlotOutcome) (b : Bool) → So o → So p → So (if b then o else p)
  so-if o p true x y = x
  so-if o p false x y = y

  bare-so : (n : Number) → SlotSo (bare_slot n)
  bare-so n = record { note = tt; readers = tt }

  -- Readers
  found-so : (p : Reader → Bool) (readers : List Reader) → AllByRecursion IsRead readers → IsReadIfAny (find p readers)
  found-so p [] all = tt
  found-so p (reader ∷ readers) all = by (p reader) (found-so p readers all.1)
    where
      by : (b : Bool) → IsReadIfAny (find p readers) → IsReadIfAny (if b then Some reader else find p readers)
      by true rest = all.0
      by false rest = rest

  kept-so : (p : Reader → Bool) (readers : List Reader) → AllByRecursion IsRead readers → AllByRecursion IsRead (filter p readers)
  kept-so p [] all = tt
  kept-so p (reader ∷ readers) all = by (p reader) (kept-so p readers all.1)
    where
      by : (b : Bool) → AllByRecursion IsRead (filter p readers) → AllByRecursion IsRead (if b then reader ∷ filter p readers else filter p readers)
      by true rest = (all.0, rest)
      by false rest = rest

  more-so : (readers : List Reader) (reader : Reader) → AllByRecursion IsRead readers → IsRead reader → AllByRecursion IsRead (readers ++ reader ∷ [])
  more-so [] reader all one = (one, tt)
  more-so (first ∷ readers) reader all one = (all.0, more-so readers reader all.1 one)

  with-so : (ask : Ask) (id : Number) (found : Option Reader) (readers : List Reader) → P ask.host id → AllByRecursion IsRead readers → AllByRecursion IsRead (with_reader ask id found readers)
  with-so ask id (Some reader) readers asks all = all
  with-so ask id None readers asks all = more-so readers (reader_of ask id) all asks

  module _ (bay : Bay) (slot : Slot) (s : SlotSo slot) where
    kept : (reply : Reply) → NamesSo reply → So (keeps slot reply)
    kept reply names = record { reply = names; slot = s }

    read-so : (want fails : Bool) (o : SlotOutcome) → So o → So (reads want fails slot o)
    read-so want fails o so = so-if (keeps slot Fault) o _ (kept Fault tt) so

    -- Share
    module _ (ask : Ask) (id : Number) (asks : P ask.host id) (want fails : Bool) where
      lock-so : (note : Option Note) (reader : Option Reader) → IsNoted note → IsReadIfAny reader → So (share_lock bay slot ask id want fails note reader)
      lock-so (Some note) reader noted read = kept (Busy note) noted
      lock-so None (Some reader) noted read = kept (Busy (reader_note reader)) read
      lock-so None None noted read = read-so want fails (share_granted_lock bay slot ask id want)
          (record { reply = tt; slot = record { note = s.note; readers = with-so ask id (find (is_reader id) slot.readers) slot.readers asks s.readers } })

      unnoted-so : So (share_unnoted bay slot id want fails)
      unnoted-so = so-if (keeps slot (Late slot.write_no)) (reads want fails slot (share_granted_order bay slot id want)) _ (kept (Late slot.write_no) tt)
          (read-so want fails (share_granted_order bay slot id want) (record { reply = tt; slot = record { note = s.note; readers = s.readers } }))

      order-so : (note : Option Note) → IsNoted note → So (share_order bay slot id want fails note)
      order-so None noted = unnoted-so
      order-so (Some note) noted = so-if (keeps slot (Busy note)) (share_unnoted bay slot id want fails) _ (kept (Busy note) noted) unnoted-so

      share-by-so : (mode : Mode) → So (share_by mode bay slot ask id want fails)
      share-by-so Lock = lock-so slot.note (find (is_same_host ask id) slot.readers) s.note (found-so (is_same_host ask id) slot.readers s.readers)
      share-by-so Order = order-so slot.note s.note

      share-at-so : (floor : Option Number) → So (share_at bay slot ask id want fails floor)
      share-at-so (Some floor) = kept (Missing floor) tt
      share-at-so None = share-by-so bay.mode

      pub share-so : So (share_rule bay slot ask id want fails)
      share-so = share-at-so (missing_floor bay slot)

      -- Claim
      module _ (mask : ℕ) where
        free-so : (how : How) → So (claim_free bay slot ask id how mask want fails)
        free-so how = so-if (keeps slot (Late (greater slot.read_no slot.write_no))) (reads want fails slot (claim_granted bay slot ask id mask want)) _
            (kept (Late (greater slot.read_no slot.write_no)) tt)
            (read-so want fails (claim_granted bay slot ask id mask want)
            (record { reply = tt; slot = record { note = asks; readers = kept-so (λ reader. not (is_reader id reader)) slot.readers s.readers } }))

        noted-so : (how : How) (note : Option Note) (reader : Option Reader) → IsNoted note → IsReadIfAny reader → So (claim_noted bay slot ask id how mask want fails note reader)
        noted-so how (Some note) reader noted read = kept (Busy note) noted
        noted-so how None (Some reader) noted read = kept (Busy (reader_note reader)) read
        noted-so how None None noted read = free-so how

        claim-at-so : (how : How) (floor : Option Number) → So (claim_at bay slot ask id how mask want fails floor)
        claim-at-so how (Some floor) = kept (Missing floor) tt
        claim-at-so how None =
            noted-so how slot.note (find (λ reader. not (is_reader id reader)) slot.readers) s.note (found-so (λ reader. not (is_reader id reader)) slot.readers s.readers)

        seized-so : (note : Option Note) → So (seize_granted bay slot ask id mask want note)
        seized-so None = record { reply = tt; slot = record { note = asks; readers = tt } }
        seized-so (Some note) = record { reply = tt; slot = record { note = asks; readers = tt } }

        unread-so : (reader : Option Reader) → IsReadIfAny reader → So (seize_unread bay slot ask id mask want fails reader)
        unread-so (Some reader) read = kept (Young (reader_note reader)) read
        unread-so None read = read-so want fails (seize_granted bay slot ask id mask want slot.note) (seized-so slot.note)

        blank-so : (floor : Option Number) (o : SlotOutcome) → So o → So (seize_blank slot floor o)
        blank-so (Some floor) o x = record { reply = tt; slot = record { note = tt; readers = s.readers } }
        blank-so None o x = x

        seize-noted-so : (young : Option Note) → IsNoted young → So (seize_noted bay slot ask id mask want fails young)
        seize-noted-so (Some note) noted = kept (Young note) noted
        seize-noted-so None noted =
            blank-so (slot_floor slot slot.cell) (seize_unread bay slot ask id mask want fails (find (λ reader. not (may_seize bay ask reader.host reader.moment)) slot.readers))
            (unread-so (find (λ reader. not (may_seize bay ask reader.host reader.moment)) slot.readers)
            (found-so (λ reader. not (may_seize bay ask reader.host reader.moment)) slot.readers s.readers))

        young-so : (note : Option Note) → IsNoted note → IsNoted (young_note bay ask note)
        young-so None noted = tt
        young-so (Some note) noted = by (may_seize bay ask note.host note.moment)
          where
            by : (b : Bool) → IsNoted (if b then None else Some note)
            by true = tt
            by false = noted

        pub claim-so : (how : How) → So (claim_rule how bay slot ask id mask want fails)
        claim-so Plain = claim-at-so Plain (missing_floor bay slot)
        claim-so Mend = claim-at-so Mend (if bay.empty then Some bay.high else None)
        claim-so Seize =
            so-if (keeps slot (Missing bay.high)) (seize_noted bay slot ask id mask want fails (young_note bay ask slot.note)) bay.empty
            (kept (Missing bay.high) tt) (seize-noted-so (young_note bay ask slot.note) (young-so slot.note s.note))

    -- Confirm
    confirm-missing-so : (floor : Option Number) → So (confirm_missing bay slot floor)
    confirm-missing-so (Some floor) = kept (Missing floor) tt
    confirm-missing-so None = kept (NoNote bay.life) tt

    pub confirm-so : (id : Number) (want fails : Bool) → So (confirm_rule bay slot id want fails)
    confirm-so id want fails =
        so-if (reads want fails slot (keeps slot (Held (wanted_cell want slot)))) (confirm_missing bay slot (missing_floor bay slot)) (note_id slot.note id)
        (read-so want fails (keeps slot (Held (wanted_cell want slot))) (kept (Held (wanted_cell want slot)) tt)) (confirm-missing-so (missing_floor bay slot))

    -- Put
    pub put-so : (id n : Number) (cell : Cell) (fails : Bool) → So (put_rule bay slot id n cell fails)
    put-so id n cell fails =
        so-if (if fails then keeps slot Fault else put_done slot id n cell) (keeps slot (NoNote bay.life)) (note_id slot.note id)
        (so-if (keeps slot Fault) (put_done slot id n cell) fails (kept Fault tt) (record { reply = tt; slot = record { note = tt; readers = s.readers } }))
        (kept (NoNote bay.life) tt)

    -- Release
    reader-so : (id : Number) (n : Option Number) (reader : Option Reader) → So (release_reader bay slot id n reader)
    reader-so id n None = kept (NoNote bay.life) tt
    reader-so id n (Some reader) = record { reply = tt; slot = record { note = s.note; readers = kept-so (λ other. not (is_reader id other)) slot.readers s.readers } }

    pub release-so : (id : Number) (n : Option Number) → So (release_rule bay slot id n)
    release-so id n =
        so-if (record { reply = Done; slot = record slot { note = None } }) (release_reader bay slot id n (find (is_reader id) slot.readers)) (note_id slot.note id)
        (record { reply = tt; slot = record { note = tt; readers = s.readers } }) (reader-so id n (find (is_reader id) slot.readers))

  -- Bays
  slot-so : (slots : List Slot) (k : ℕ) → AllByRecursion SlotSo slots → SlotSo (slice_index_or slots k (bare_slot (number 0)))
  slot-so [] k all = bare-so (number 0)
  slot-so (slot ∷ slots) zero all = all.0
  slot-so (slot ∷ slots) (suc k) all = slot-so slots k all.1

  set-so : (slots : List Slot) (k : ℕ) (slot : Slot) → AllByRecursion SlotSo slots → SlotSo slot → AllByRecursion SlotSo (slice_set slots k slot)
  set-so slots k slot all so = recursion_from_All SlotSo (slice_set slots k slot) (All-set SlotSo slots k slot so (All-from_recursion SlotSo slots all))

  map-so : (n : Number) (slots : List Slot) → AllByRecursion SlotSo (map (λ _. bare_slot n) slots)
  map-so n [] = tt
  map-so n (slot ∷ slots) = (bare-so n, map-so n slots)

  pub record OutcomeSo (o : Outcome) : Type 0 where
    pub reply : NamesSo o.reply
    pub bay : BaySo o.bay

  with-slot-so : (bay : Bay) (row : RowNo) (old : Slot) (o : SlotOutcome) → BaySo bay → So o → OutcomeSo (with_slot bay row old o)
  with-slot-so bay row old o b so = record { reply = so.reply; bay = set-so bay.slots row.0 o.slot b so.slot }

  lose-so : (bay : Bay) (empty : Bool) → BaySo bay → OutcomeSo (lose_rule bay empty)
  lose-so bay true b = record { reply = tt; bay = b }
  lose-so bay false b = record { reply = tt; bay = map-so (number 0) bay.slots }

  fit-so : (bay : Bay) (empty : Bool) → BaySo bay → OutcomeSo (fit_rule bay empty)
  fit-so bay true b = record { reply = tt; bay = map-so bay.high bay.slots }
  fit-so bay false b = record { reply = tt; bay = b }

  there-so : (bay : Bay) (row : RowNo) → BaySo bay → SlotSo (slot_of bay row)
  there-so bay row b = slot-so bay.slots row.0 b

  rule-of-so : (bay : Bay) (ask : Ask) (fails : Bool) (what : Request) → BaySo bay → AsksSo ask.host what → OutcomeSo (rule_of bay ask fails what)
  rule-of-so bay ask fails (Share row id want) b asks =
      with-slot-so bay row (slot_of bay row) (share_rule bay (slot_of bay row) ask id want fails) b (share-so bay (slot_of bay row) (there-so bay row b) ask id asks want fails)
  rule-of-so bay ask fails (Claim row id how mask want) b asks =
      with-slot-so bay row (slot_of bay row) (claim_rule how bay (slot_of bay row) ask id mask want fails) b
      (claim-so bay (slot_of bay row) (there-so bay row b) ask id asks want fails mask how)
  rule-of-so bay ask fails (Confirm row id want) b asks =
      with-slot-so bay row (slot_of bay row) (confirm_rule bay (slot_of bay row) id want fails) b (confirm-so bay (slot_of bay row) (there-so bay row b) id want fails)
  rule-of-so bay ask fails (Put row id n cell) b asks =
      with-slot-so bay row (slot_of bay row) (put_rule bay (slot_of bay row) id n cell fails) b (put-so bay (slot_of bay row) (there-so bay row b) id n cell fails)
  rule-of-so bay ask fails (Release row id n) b asks =
      with-slot-so bay row (slot_of bay row) (release_rule bay (slot_of bay row) id n) b (release-so bay (slot_of bay row) (there-so bay row b) id n)
  rule-of-so bay ask fails Lose b asks = lose-so bay bay.empty b
  rule-of-so bay ask fails Fit b asks = fit-so bay bay.empty b

  pub rule-so : (bay : Bay) (ask : Ask) (fails : Bool) → BaySo bay → AsksSo ask.host ask.what → OutcomeSo (rule bay ask fails)
  rule-so bay ask fails b asks = rule-of-so bay ask fails ask.what b asks

  first-so : (rows : ℕ) → AllByRecursion SlotSo (replicate rows first_slot)
  first-so zero = tt
  first-so (suc rows) = (record { note = tt; readers = tt }, first-so rows)

  pub first-bay-so : (mode : Mode) (rows patience : ℕ) → BaySo (first_bay mode rows patience)
  first-bay-so mode rows patience = first-so rows
