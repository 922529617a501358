-- What a bay replies to an ask, and what it is afterwards.
use Rattle.std.specs.Prelude.{ℕ, ◌+◌, max, nat_lt, nat_le, ◌==◌, not, ◌&&◌, ◌||◌, Bool, true, false, if◌then◌else◌, List, [], ◌∷◌, ◌++◌, map, filter, find, slice_set, Option, Some, None, is_some}
use Rattle.raid_base.specs.declared.numbers.HostNo.{HostNo}
use Rattle.raid_base.specs.declared.numbers.RowNo.{RowNo}
use Rattle.raid_base.specs.declared.numbers.Number.{Number}
use Rattle.raid_base.specs.declared.messages.Mode.{Mode}
use Rattle.raid_base.specs.declared.messages.Mode.TheVariants.{Lock, Order}
use Rattle.raid_base.specs.declared.messages.How.{How}
use Rattle.raid_base.specs.declared.messages.How.TheVariants.{Plain, Seize, Mend}
use Rattle.raid_base.specs.declared.cells.Cell.{Cell}
use Rattle.raid_base.specs.declared.messages.Note.{Note}
use Rattle.raid_base.specs.declared.messages.Request.{Request}
use Rattle.raid_base.specs.declared.messages.Request.TheVariants.{Share, Claim, Confirm, Put, Release, Lose, Fit}
use Rattle.raid_base.specs.declared.messages.Reply.{Reply}
use Rattle.raid_base.specs.declared.messages.Reply.TheVariants.{Granted, Busy, Late, Young, Missing, Held, NoNote, Done, Fault, Emptied, Fitted}
use Rattle.raid_base.specs.declared.messages.Ask.{Ask}
use Rattle.raid_base.specs.Numbers.{number, greater}
use Rattle.slot_rules.specs.declared.Reader.{Reader}
use Rattle.slot_rules.specs.Slots.{Slot, Bay, bare_slot, slot_of, reader_note}

-- a reply, and the slot after it
pub record SlotOutcome : Type 0 where
  pub reply : Reply
  pub slot : Slot

-- this reply, and the slot as it is
abbrev pub keeps : Slot → Reply → SlotOutcome
keeps slot reply = record { reply = reply; slot = slot }

-- the cell, where it is wanted and there
abbrev pub wanted_cell : Bool → Slot → Option Cell
wanted_cell want slot = if want then slot.cell else None

-- where a cell is shown the store is read: a failed read answers Fault and changes nothing
abbrev pub reads : Bool → Bool → Slot → SlotOutcome → SlotOutcome
reads want fails slot outcome = if is_some (wanted_cell want slot) && fails then keeps slot Fault else outcome

-- the reply that grants: it shows the slot, and the note that was seized
abbrev pub granted : Bay → Slot → Bool → Option Note → Reply
granted bay slot want seized = Granted (wanted_cell want slot) slot.read_no slot.write_no slot.last bay.life seized

-- the floor with which a missing slot answers
abbrev pub slot_floor : Slot → Option Cell → Option Number
slot_floor slot None = Some slot.write_no
slot_floor slot (Some cell) = None

-- the floor with which a bay answers for a slot: none where there is a cell
abbrev pub missing_floor : Bay → Slot → Option Number
missing_floor bay slot = if bay.empty then Some bay.high else slot_floor slot slot.cell

-- a note or a reader of this host and moment is old for the ask, or its own
abbrev pub may_seize : Bay → Ask → HostNo → ℕ → Bool
may_seize bay ask host moment = nat_le (moment + bay.patience) ask.moment || (host.0 == ask.host.0)

-- whether a note is open that has this id
abbrev pub note_id : Option Note → Number → Bool
note_id None id = false
note_id (Some note) id = note.id.0 == id.0

-- whether this is the reader with this id
abbrev pub is_reader : Number → Reader → Bool
is_reader id reader = reader.id.0 == id.0

-- the readers without this id
abbrev pub other_readers : Number → List Reader → List Reader
other_readers id readers = filter (λ reader. not (is_reader id reader)) readers

-- the reader that a share under locks lets in
abbrev pub reader_of : Ask → Number → Reader
reader_of ask id = record { host = ask.host; id = id; moment = ask.moment }

-- the readers with that one, unless it is among them
abbrev pub with_reader : Ask → Number → Option Reader → List Reader → List Reader
with_reader ask id (Some reader) readers = readers
with_reader ask id None readers = readers ++ reader_of ask id ∷ []

-- another reader of the same host
abbrev pub is_same_host : Ask → Number → Reader → Bool
is_same_host ask id reader = (reader.host.0 == ask.host.0) && not (is_reader id reader)

-- a plain claim under stamps is late unless its id is above both numbers
abbrev pub is_late : How → Mode → Number → Slot → Bool
is_late Plain Order id slot = nat_le id.0 (max slot.read_no.0 slot.write_no.0)
is_late Plain Lock id slot = false
is_late Mend mode id slot = false
is_late Seize mode id slot = false

-- the note of an ask's claim
abbrev pub note_of : Ask → Number → Number → ℕ → Note
note_of ask id origin mask =
    record { host = ask.host; id = id; origin = origin; mask = mask; moment = ask.moment }

-- a missing slot loses its note
abbrev pub seize_blank : Slot → Option Number → SlotOutcome → SlotOutcome
seize_blank slot (Some floor) outcome =
    record { reply = Missing floor; slot = record slot { note = None } }
seize_blank slot None outcome = outcome

-- a note that is young
abbrev pub young_note : Bay → Ask → Option Note → Option Note
young_note bay ask None = None
young_note bay ask (Some note) =
    if may_seize bay ask note.host note.moment then None else Some note

-- Shares under stamps of a slot of a bay: with this id
module _ (bay : Bay) (slot : Slot) (id : Number) where
  -- a share that is granted under stamps raises the read number
  abbrev pub share_granted_order : Bool → SlotOutcome
  share_granted_order want =
      record {
        reply = granted bay slot want None;
        slot = record slot { read_no = greater slot.read_no id };
      }

  -- where no note holds it off a share is late below the write number
  abbrev pub share_unnoted : Bool → Bool → SlotOutcome
  share_unnoted want fails =
      if nat_lt id.0 slot.write_no.0
      then keeps slot (Late slot.write_no)
      else reads want fails slot (share_granted_order want)

  -- a note holds off the shares with an id above its origin
  abbrev pub share_order : Bool → Bool → Option Note → SlotOutcome
  share_order want fails None = share_unnoted want fails
  share_order want fails (Some note) =
      if nat_lt note.origin.0 id.0 then keeps slot (Busy note) else share_unnoted want fails

-- Shares under locks, and claims, of a slot of a bay: by this ask, with this id
module _ (bay : Bay) (slot : Slot) (ask : Ask) (id : Number) where
  -- a share that is granted under locks lets the ask's host in as a reader
  abbrev pub share_granted_lock : Bool → SlotOutcome
  share_granted_lock want = record {
    reply = granted bay slot want None;
    slot = record slot {
      readers = with_reader ask id (find (is_reader id) slot.readers) slot.readers;
    };
  }

  -- a note holds off all shares, and so does another reader of the ask's host
  abbrev pub share_lock : Bool → Bool → Option Note → Option Reader → SlotOutcome
  share_lock want fails (Some note) reader = keeps slot (Busy note)
  share_lock want fails None (Some reader) = keeps slot (Busy (reader_note reader))
  share_lock want fails None None = reads want fails slot (share_granted_lock want)

  -- a claim, plain or to mend, that is granted opens a note, and its own reader goes
  abbrev pub claim_granted : ℕ → Bool → SlotOutcome
  claim_granted mask want = record {
    reply = granted bay slot want None;
    slot = record slot {
      note = Some (note_of ask id id mask);
      readers = other_readers id slot.readers;
    };
  }

  -- where no note and no reader holds it off a claim may be late
  abbrev pub claim_free : How → ℕ → Bool → Bool → SlotOutcome
  claim_free how mask want fails =
      if is_late how bay.mode id slot
      then keeps slot (Late (greater slot.read_no slot.write_no))
      else reads want fails slot (claim_granted mask want)

  -- a note holds off all claims, and so does another reader
  abbrev pub claim_noted : How → ℕ → Bool → Bool → Option Note → Option Reader → SlotOutcome
  claim_noted how mask want fails (Some note) reader = keeps slot (Busy note)
  claim_noted how mask want fails None (Some reader) = keeps slot (Busy (reader_note reader))
  claim_noted how mask want fails None None = claim_free how mask want fails

  -- a claim, plain or to mend, where this floor stands against it, if any
  abbrev pub claim_at : How → ℕ → Bool → Bool → Option Number → SlotOutcome
  claim_at how mask want fails (Some floor) = keeps slot (Missing floor)
  claim_at how mask want fails None =
      claim_noted how mask want fails slot.note
      (find (λ reader. not (is_reader id reader)) slot.readers)

  -- a granted seizure hands on the origin and the mask of the note that it seizes, and all readers go
  abbrev pub seize_granted : ℕ → Bool → Option Note → SlotOutcome
  seize_granted mask want None = record {
    reply = granted bay slot want None;
    slot = record slot { note = Some (note_of ask id id mask); readers = [] };
  }
  seize_granted mask want (Some note) = record {
    reply = granted bay slot want (Some note);
    slot = record slot { note = Some (note_of ask id note.origin note.mask); readers = [] };
  }

  -- a reader that is young holds off a seizure
  abbrev pub seize_unread : ℕ → Bool → Bool → Option Reader → SlotOutcome
  seize_unread mask want fails (Some reader) = keeps slot (Young (reader_note reader))
  seize_unread mask want fails None = reads want fails slot (seize_granted mask want slot.note)

  -- a note that is young holds off a seizure
  abbrev pub seize_noted : ℕ → Bool → Bool → Option Note → SlotOutcome
  seize_noted mask want fails (Some note) = keeps slot (Young note)
  seize_noted mask want fails None =
      seize_blank slot (slot_floor slot slot.cell)
      (seize_unread mask want fails
      (find (λ reader. not (may_seize bay ask reader.host reader.moment)) slot.readers))

  -- Claim by seizure: a bay without a device answers the floor
  abbrev pub seize_rule : ℕ → Bool → Bool → SlotOutcome
  seize_rule mask want fails =
      if bay.empty
      then keeps slot (Missing bay.high)
      else seize_noted mask want fails (young_note bay ask slot.note)

-- a share of a slot that isn't missing, by how requests are ordered
abbrev pub share_by : Mode → Bay → Slot → Ask → Number → Bool → Bool → SlotOutcome
share_by Lock bay slot ask id want fails =
    share_lock bay slot ask id want fails slot.note (find (is_same_host ask id) slot.readers)
share_by Order bay slot ask id want fails = share_order bay slot id want fails slot.note

module _ (bay : Bay) (slot : Slot) (ask : Ask) (id : Number) where
  -- a share where this floor stands against it, if any
  abbrev pub share_at : Bool → Bool → Option Number → SlotOutcome
  share_at want fails (Some floor) = keeps slot (Missing floor)
  share_at want fails None = share_by bay.mode bay slot ask id want fails

  -- Share
  abbrev pub share_rule : Bool → Bool → SlotOutcome
  share_rule want fails = share_at want fails (missing_floor bay slot)

-- Claim: a claim to mend takes a blank slot too
abbrev pub claim_rule : How → Bay → Slot → Ask → Number → ℕ → Bool → Bool → SlotOutcome
claim_rule Plain bay slot ask id mask want fails =
    claim_at bay slot ask id Plain mask want fails (missing_floor bay slot)
claim_rule Mend bay slot ask id mask want fails =
    claim_at bay slot ask id Mend mask want fails (if bay.empty then Some bay.high else None)
claim_rule Seize bay slot ask id mask want fails = seize_rule bay slot ask id mask want fails

-- a confirm of a slot without the note
abbrev pub confirm_missing : Bay → Slot → Option Number → SlotOutcome
confirm_missing bay slot (Some floor) = keeps slot (Missing floor)
confirm_missing bay slot None = keeps slot (NoNote bay.life)

-- Confirm
abbrev pub confirm_rule : Bay → Slot → Number → Bool → Bool → SlotOutcome
confirm_rule bay slot id want fails =
    if note_id slot.note id
    then reads want fails slot (keeps slot (Held (wanted_cell want slot)))
    else confirm_missing bay slot (missing_floor bay slot)

-- a put that is done changes the cell and closes the note
abbrev pub put_done : Slot → Number → Number → Cell → SlotOutcome
put_done slot id n cell =
    record { reply = Done; slot = record slot { cell = Some cell; write_no = greater slot.write_no n; last = id; note = None } }

-- Put
abbrev pub put_rule : Bay → Slot → Number → Number → Cell → Bool → SlotOutcome
put_rule bay slot id n cell fails =
    if note_id slot.note id
    then (if fails then keeps slot Fault else put_done slot id n cell)
    else keeps slot (NoNote bay.life)

-- the read number of a slot after a release with this number, if any
abbrev pub read_at : Slot → Option Number → Number
read_at slot None = slot.read_no
read_at slot (Some n) = greater slot.read_no n

-- a release of this reader, if there is one
abbrev pub release_reader : Bay → Slot → Number → Option Number → Option Reader → SlotOutcome
release_reader bay slot id n None = keeps slot (NoNote bay.life)
release_reader bay slot id n (Some reader) =
    record { reply = Done; slot = record slot { read_no = read_at slot n; readers = other_readers id slot.readers } }

-- Release: of the note with this id, or else of the reader
abbrev pub release_rule : Bay → Slot → Number → Option Number → SlotOutcome
release_rule bay slot id n =
    if note_id slot.note id
    then record { reply = Done; slot = record slot { note = None } }
    else release_reader bay slot id n (find (is_reader id) slot.readers)

-- a reply, and the bay after it
pub record Outcome : Type 0 where
  pub reply : Reply
  pub bay : Bay

-- the high number rises with a number of a slot
abbrev pub raised : Number → Number → Number → Number
raised high before after = if nat_lt before.0 after.0 then greater high after else high

-- the bay with one slot changed
abbrev pub with_slot : Bay → RowNo → Slot → SlotOutcome → Outcome
with_slot bay row old outcome = record {
  reply = outcome.reply;
  bay = record bay {
    high = raised (raised bay.high old.read_no outcome.slot.read_no) old.write_no outcome.slot.write_no;
    slots = slice_set bay.slots row.0 outcome.slot;
  };
}

-- Lose: the device is gone, and all that stood on it, unless there was none
abbrev pub lose_rule : Bay → Bool → Outcome
lose_rule bay true = record { reply = Emptied; bay = bay }
lose_rule bay false = record { reply = Emptied; bay = record bay { empty = true; life = bay.life + 1; slots = map (λ _. bare_slot (number 0)) bay.slots } }

-- Fit: a blank device is there, unless there was one
abbrev pub fit_rule : Bay → Bool → Outcome
fit_rule bay true = record { reply = Fitted; bay = record bay { empty = false; slots = map (λ _. bare_slot bay.high) bay.slots } }
fit_rule bay false = record { reply = Fitted; bay = bay }

-- the rule of each request
abbrev pub rule_of : Bay → Ask → Bool → Request → Outcome
rule_of bay ask fails (Share row id want) = with_slot bay row (slot_of bay row) (share_rule bay (slot_of bay row) ask id want fails)
rule_of bay ask fails (Claim row id how mask want) = with_slot bay row (slot_of bay row) (claim_rule how bay (slot_of bay row) ask id mask want fails)
rule_of bay ask fails (Confirm row id want) = with_slot bay row (slot_of bay row) (confirm_rule bay (slot_of bay row) id want fails)
rule_of bay ask fails (Put row id n cell) = with_slot bay row (slot_of bay row) (put_rule bay (slot_of bay row) id n cell fails)
rule_of bay ask fails (Release row id n) = with_slot bay row (slot_of bay row) (release_rule bay (slot_of bay row) id n)
rule_of bay ask fails Lose = lose_rule bay bay.empty
rule_of bay ask fails Fit = fit_rule bay bay.empty

-- the rule: fails says whether the store fails, where it is asked
abbrev pub rule : Bay → Ask → Bool → Outcome
rule bay ask fails = rule_of bay ask fails ask.what
