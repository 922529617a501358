-- The laws of one bay.
use Rattle.std.specs.Prelude.{◌≡◌, ℕ, ◌+◌, ◌<◌, ◌≤◌, ◌==◌, ◌||◌, ◌⊎◌, not, Bool, true, false, if◌then◌else◌, List, [], ◌∷◌, length, find, slice_set, Option, Some, None, is_some}
use Rattle.std.specs.List.{AllByRecursion}
use Rattle.raid_base.specs.declared.numbers.Number.{Number}
use Rattle.raid_base.specs.declared.numbers.RowNo.{RowNo}
use Rattle.raid_base.specs.declared.messages.Mode.{Mode}
use Rattle.raid_base.specs.declared.messages.Mode.TheVariants.{Lock, Order}
use Rattle.raid_base.specs.declared.messages.Note.{Note}
use Rattle.raid_base.specs.declared.messages.How.{How}
use Rattle.raid_base.specs.declared.messages.How.TheVariants.{Plain, Seize, Mend}
use Rattle.raid_base.specs.declared.messages.Ask.{Ask}
use Rattle.raid_base.specs.declared.messages.Reply.{Reply}
use Rattle.raid_base.specs.declared.messages.Reply.TheVariants.{Granted, Busy, Late, Young, Missing, Held, NoNote, Done, Fault, Emptied, Fitted}
use Rattle.raid_base.specs.declared.messages.Request.{Request}
use Rattle.raid_base.specs.declared.messages.Request.TheVariants.{Share, Claim, Confirm, Put, Release, Lose, Fit}
use Rattle.raid_base.specs.declared.messages.Entry.{Entry}
use Rattle.raid_base.specs.Fits.{fits}
use Rattle.raid_base.specs.Replies.{is_fault}
use Rattle.slot_rules.specs.declared.Reader.{Reader}
use Rattle.raid_base.specs.Numbers.{number}
use Rattle.slot_rules.specs.Slots.{Slot, Bay, first_bay, bare_slot, slot_of}
use Rattle.slot_rules.specs.Replay.{Replays}
use Rattle.slot_rules.specs.Serving.{row_of}
use Rattle.slot_rules.specs.Rules.{note_id, note_of, is_reader, rule}

-- the reply always fits the request
abbrev pub RepliesFit : Type 0
RepliesFit = (bay : Bay) (ask : Ask) (fails : Bool) → fits ask.what (rule bay ask fails).reply ≡ true

-- whether a reply refuses
abbrev pub is_refused : Reply → Bool
is_refused (Busy holder) = true
is_refused (Late above) = true
is_refused (Young note) = true
is_refused (Missing floor) = true
is_refused (NoNote life) = true
is_refused Fault = true
is_refused (Granted cell read_no write_no last life seized) = false
is_refused (Held cell) = false
is_refused Done = false
is_refused Emptied = false
is_refused Fitted = false

-- a slot after a refusal: a seizure that finds it blank closes its note, and nothing else changes
abbrev pub refused_slot : Bool → Request → Reply → Slot → Slot
refused_slot empty (Claim row id Seize mask want) (Missing floor) slot = if empty || is_some slot.cell then slot else record slot { note = None }
refused_slot empty what reply slot = slot

-- a bay after a refusal
abbrev pub refused_bay : Bay → Request → Reply → Bay
refused_bay bay (Claim row id Seize mask want) (Missing floor) =
    record bay { slots = slice_set bay.slots row.0 (refused_slot bay.empty (Claim row id Seize mask want) (Missing floor) (slot_of bay row)) }
refused_bay bay what reply = bay

-- a refusal leaves the bay as it was, but for a seizure that closes a note on a blank slot
abbrev pub RefusalsLeaveTheBay : Type 0
RefusalsLeaveTheBay =
    (bay : Bay) (ask : Ask) (fails : Bool) → is_refused (rule bay ask fails).reply ≡ true →
    (rule bay ask fails).bay ≡ refused_bay bay ask.what (rule bay ask fails).reply

-- whether a request needs the store: it answers Fault should the store fail
abbrev pub uses_store : Bay → Ask → Bool
uses_store bay ask = is_fault (rule bay ask true).reply

-- a fault comes only of a store that is needed and fails, and then nothing changes
pub record FaultsComeOfTheStore (bay : Bay) (ask : Ask) : Type 0 where
  pub works : is_fault (rule bay ask false).reply ≡ false
  pub failed : uses_store bay ask ≡ true → rule bay ask true ≡ record { reply = Fault; bay = bay }
  pub spared : uses_store bay ask ≡ false → rule bay ask true ≡ rule bay ask false

-- this holds of every bay and every ask
abbrev pub FaultsComeOfStores : Type 0
FaultsComeOfStores = (bay : Bay) (ask : Ask) → FaultsComeOfTheStore bay ask

-- whether a reply grants
abbrev pub is_granted : Reply → Bool
is_granted (Granted cell read_no write_no last life seized) = true
is_granted (Busy holder) = false
is_granted (Late above) = false
is_granted (Young note) = false
is_granted (Missing floor) = false
is_granted (Held cell) = false
is_granted (NoNote life) = false
is_granted Done = false
is_granted Fault = false
is_granted Emptied = false
is_granted Fitted = false

-- while a note is open no share with an id above its origin is granted under stamps, and none at all under locks
abbrev pub NotesHoldOffShares : Type 0
NotesHoldOffShares =
    (bay : Bay) (ask : Ask) (fails : Bool) (row : RowNo) (id : Number) (want : Bool) (note : Note) →
    ask.what ≡ Share row id want → (slot_of bay row).note ≡ Some note →
    (bay.mode ≡ Lock → is_granted (rule bay ask fails).reply ≡ false)
    × (bay.mode ≡ Order → note.origin.0 < id.0 → is_granted (rule bay ask fails).reply ≡ false)

-- the life that a reply shows
abbrev pub shown_life : Reply → Option ℕ
shown_life (Granted cell read_no write_no last life seized) = Some life
shown_life (NoNote life) = Some life
shown_life (Busy holder) = None
shown_life (Late above) = None
shown_life (Young note) = None
shown_life (Missing floor) = None
shown_life (Held cell) = None
shown_life Done = None
shown_life Fault = None
shown_life Emptied = None
shown_life Fitted = None

-- the number under which a slot was read: under stamps by a granted share, under locks by a release of a reader
abbrev pub order_read : Mode → Number → Option Number
order_read Order id = Some id
order_read Lock id = None

-- the number under which a granted request reads
abbrev pub granted_read : Request → Mode → Option Number
granted_read (Share row id want) mode = order_read mode id
granted_read (Claim row id how mask want) mode = None
granted_read (Confirm row id want) mode = None
granted_read (Put row id n cell) mode = None
granted_read (Release row id n) mode = None
granted_read Lose mode = None
granted_read Fit mode = None

-- the number under which a release reads that was done: none where it was of a note
abbrev pub released_read : Request → Option Note → Option Number
released_read (Release row id n) open_note = if note_id open_note id then None else n
released_read (Share row id want) open_note = None
released_read (Claim row id how mask want) open_note = None
released_read (Confirm row id want) open_note = None
released_read (Put row id n cell) open_note = None
released_read Lose open_note = None
released_read Fit open_note = None

-- the number under which a slot was read, by the note that was open before
abbrev pub read_number : Mode → Option Note → Request → Reply → Option Number
read_number mode open_note what (Granted cell read_no write_no last life seized) = granted_read what mode
read_number mode open_note what Done = released_read what open_note
read_number mode open_note what (Busy holder) = None
read_number mode open_note what (Late above) = None
read_number mode open_note what (Young note) = None
read_number mode open_note what (Missing floor) = None
read_number mode open_note what (Held cell) = None
read_number mode open_note what (NoNote life) = None
read_number mode open_note what Fault = None
read_number mode open_note what Emptied = None
read_number mode open_note what Fitted = None

-- the number under which a slot was written
abbrev pub put_number : Request → Option Number
put_number (Put row id n cell) = Some n
put_number (Share row id want) = None
put_number (Claim row id how mask want) = None
put_number (Confirm row id want) = None
put_number (Release row id n) = None
put_number Lose = None
put_number Fit = None

-- the number under which a slot was written
abbrev pub write_number : Request → Reply → Option Number
write_number what Done = put_number what
write_number what (Granted cell read_no write_no last life seized) = None
write_number what (Busy holder) = None
write_number what (Late above) = None
write_number what (Young note) = None
write_number what (Missing floor) = None
write_number what (Held cell) = None
write_number what (NoNote life) = None
write_number what Fault = None
write_number what Emptied = None
write_number what Fitted = None

-- the note that a granted claim opens: it hands on the origin and the mask of the note that it seized
abbrev pub claimed_note : Ask → Number → ℕ → Option Note → Note
claimed_note ask id mask None = note_of ask id id mask
claimed_note ask id mask (Some note) = note_of ask id note.origin note.mask

-- where a note comes from that is open after a granted request: from this claim, which seized what was open, or from before
abbrev pub GrantedNote : Ask → Request → Option Note → Option Note → Note → Type 0
GrantedNote ask (Claim row id how mask want) seized old note = (note ≡ claimed_note ask id mask seized) × (seized ≡ old)
GrantedNote ask (Share row id want) seized old note = old ≡ Some note
GrantedNote ask (Confirm row id want) seized old note = old ≡ Some note
GrantedNote ask (Put row id n cell) seized old note = old ≡ Some note
GrantedNote ask (Release row id n) seized old note = old ≡ Some note
GrantedNote ask Lose seized old note = old ≡ Some note
GrantedNote ask Fit seized old note = old ≡ Some note

-- the same for every reply
abbrev pub NoteComes : Ask → Request → Reply → Option Note → Note → Type 0
NoteComes ask what (Granted cell read_no write_no last life seized) old note = GrantedNote ask what seized old note
NoteComes ask what (Busy holder) old note = old ≡ Some note
NoteComes ask what (Late above) old note = old ≡ Some note
NoteComes ask what (Young note') old note = old ≡ Some note
NoteComes ask what (Missing floor) old note = old ≡ Some note
NoteComes ask what (Held cell) old note = old ≡ Some note
NoteComes ask what (NoNote life) old note = old ≡ Some note
NoteComes ask what Done old note = old ≡ Some note
NoteComes ask what Fault old note = old ≡ Some note
NoteComes ask what Emptied old note = old ≡ Some note
NoteComes ask what Fitted old note = old ≡ Some note

-- what a granted claim says of readers: a plain one, or one to mend, finds no other reader, and a seizure leaves none
abbrev pub ClaimReaders : How → Number → Slot → Slot → Type 0
ClaimReaders Plain id slot left = find (λ reader. not (is_reader id reader)) slot.readers ≡ None
ClaimReaders Mend id slot left = find (λ reader. not (is_reader id reader)) slot.readers ≡ None
ClaimReaders Seize id slot left = left.readers ≡ []

-- the same for every granted request
abbrev pub GrantedReaders : Request → Slot → Slot → Type 0
GrantedReaders (Claim row id how mask want) slot left = ClaimReaders how id slot left
GrantedReaders (Share row id want) slot left = Unit {0}
GrantedReaders (Confirm row id want) slot left = Unit {0}
GrantedReaders (Put row id n cell) slot left = Unit {0}
GrantedReaders (Release row id n) slot left = Unit {0}
GrantedReaders Lose slot left = Unit {0}
GrantedReaders Fit slot left = Unit {0}

-- a release that was done found a note or a reader of its id
abbrev pub DoneReaders : Request → Slot → Type 0
DoneReaders (Release row id n) slot = (note_id slot.note id || is_some (find (is_reader id) slot.readers)) ≡ true
DoneReaders (Share row id want) slot = Unit {0}
DoneReaders (Claim row id how mask want) slot = Unit {0}
DoneReaders (Confirm row id want) slot = Unit {0}
DoneReaders (Put row id n cell) slot = Unit {0}
DoneReaders Lose slot = Unit {0}
DoneReaders Fit slot = Unit {0}

-- the same for every reply
abbrev pub ReadersStand : Request → Reply → Slot → Slot → Type 0
ReadersStand what (Granted cell read_no write_no last life seized) slot left = GrantedReaders what slot left
ReadersStand what Done slot left = DoneReaders what slot
ReadersStand what (Busy holder) slot left = Unit {0}
ReadersStand what (Late above) slot left = Unit {0}
ReadersStand what (Young note) slot left = Unit {0}
ReadersStand what (Missing floor) slot left = Unit {0}
ReadersStand what (Held cell) slot left = Unit {0}
ReadersStand what (NoNote life) slot left = Unit {0}
ReadersStand what Fault slot left = Unit {0}
ReadersStand what Emptied slot left = Unit {0}
ReadersStand what Fitted slot left = Unit {0}

-- In a bay with this mode and life
module _ (mode : Mode) (life : ℕ) where
  -- what a request of a row does to its slot
  pub record IsStep (ask : Ask) (what : Request) (slot : Slot) (reply : Reply) (left : Slot) : Type 0 where
    pub read_rises : slot.read_no.0 ≤ left.read_no.0
    pub write_rises : slot.write_no.0 ≤ left.write_no.0
    pub read_covered : (n : Number) → read_number mode slot.note what reply ≡ Some n → n.0 ≤ left.read_no.0
    pub write_covered : (n : Number) → write_number what reply ≡ Some n → n.0 ≤ left.write_no.0
    pub life_shown : (l : ℕ) → shown_life reply ≡ Some l → l ≡ life
    pub note_comes : (note : Note) → left.note ≡ Some note → NoteComes ask what reply slot.note note
    pub readers_stand : ReadersStand what reply slot left

-- whether a request is for this row
abbrev pub is_row : RowNo → Option RowNo → Bool
is_row row None = false
is_row row (Some r) = r.0 == row.0

-- a request of a row does to its slot what these steps allow
abbrev pub SlotsStep : Type 0
SlotsStep =
    (bay : Bay) (ask : Ask) (fails : Bool) (row : RowNo) → row_of ask.what ≡ Some row → row.0 < length bay.slots →
    IsStep bay.mode bay.life ask ask.what (slot_of bay row) (rule bay ask fails).reply (slot_of (rule bay ask fails).bay row)

-- how often these entries lose a device
abbrev pub loses : Bay → Request → ℕ
loses bay Lose = if bay.empty then 0 else 1
loses bay (Share row id want) = 0
loses bay (Claim row id how mask want) = 0
loses bay (Confirm row id want) = 0
loses bay (Put row id n cell) = 0
loses bay (Release row id n) = 0
loses bay Fit = 0

-- the same for a run of entries
abbrev pub losses : Bay → List Entry → ℕ
losses bay [] = 0
losses bay (entry ∷ entries) = loses bay entry.ask.what + losses (rule bay entry.ask (is_fault entry.reply)).bay entries

-- a life that is shown later is the one that was shown before, and as many as devices were lost in between:
-- so the two differ exactly where one was
abbrev pub LivesTellLosses : Type 0
LivesTellLosses =
    (bay : Bay) (ask : Ask) (fails : Bool) (clock : ℕ) (between : List Entry) (bay' : Bay) (clock' : ℕ) (ask' : Ask) (fails' : Bool) (life life' : ℕ) →
    shown_life (rule bay ask fails).reply ≡ Some life → Replays (rule bay ask fails).bay clock between bay' clock' →
    shown_life (rule bay' ask' fails').reply ≡ Some life' → life' ≡ life + losses (rule bay ask fails).bay between

-- the note that a grant seized
abbrev pub seized_of : Reply → Option (Option Note)
seized_of (Granted cell read_no write_no last life seized) = Some seized
seized_of (Busy holder) = None
seized_of (Late above) = None
seized_of (Young note) = None
seized_of (Missing floor) = None
seized_of (Held cell) = None
seized_of (NoNote life) = None
seized_of Done = None
seized_of Fault = None
seized_of Emptied = None
seized_of Fitted = None

-- a granted claim of this row that seized no note, with this id and mask
pub record Opens (row : RowNo) (origin : Number) (mask : ℕ) (ask : Ask) (reply : Reply) : Type 0 where
  pub how : How
  pub want : Bool
  pub asked : ask.what ≡ Claim row origin how mask want
  pub granted : seized_of reply ≡ Some None

-- it holds of some entry
abbrev pub SomeEntry : (Entry → Type 0) → List Entry → Type 0
SomeEntry P [] = ⊥
SomeEntry P (entry ∷ entries) = P entry ⊎ SomeEntry P entries

-- an open note has the origin and the mask of a granted claim
abbrev pub NotesHaveOrigins : Type 0
NotesHaveOrigins =
    (mode : Mode) (rows patience : ℕ) (entries : List Entry) (bay : Bay) (clock : ℕ) (row : RowNo) (note : Note) → row.0 < rows →
    Replays (first_bay mode rows patience) 0 entries bay clock → (slot_of bay row).note ≡ Some note →
    SomeEntry (λ entry. Opens row note.origin note.mask entry.ask entry.reply) entries

-- the numbers under which a slot was read and written, the first of them first
abbrev pub with_some : Option Number → List Number → List Number
with_some None numbers = numbers
with_some (Some n) numbers = n ∷ numbers

-- the number under which a row was read
abbrev pub read_in : RowNo → Bay → Request → Reply → Option Number
read_in row bay what reply = if is_row row (row_of what) then read_number bay.mode (slot_of bay row).note what reply else None

-- the number under which a row was written
abbrev pub written_in : RowNo → Request → Reply → Option Number
written_in row what reply = if is_row row (row_of what) then write_number what reply else None

-- the numbers under which a row was read in a run of entries, the first of them first
abbrev pub reads_shown : RowNo → Bay → List Entry → List Number
reads_shown row bay [] = []
reads_shown row bay (entry ∷ entries) =
    with_some (read_in row bay entry.ask.what entry.reply) (reads_shown row (rule bay entry.ask (is_fault entry.reply)).bay entries)

-- the same for writes
abbrev pub writes_shown : RowNo → List Entry → List Number
writes_shown row [] = []
writes_shown row (entry ∷ entries) = with_some (written_in row entry.ask.what entry.reply) (writes_shown row entries)

-- a number is covered: by the bay's high number always, and by the slot's number while its device is there
abbrev pub CoversRead : Bay → RowNo → Number → Type 0
CoversRead bay row n = (n.0 ≤ bay.high.0) × (bay.empty ≡ false → n.0 ≤ (slot_of bay row).read_no.0)

-- the same for the number of a write
abbrev pub CoversWrite : Bay → RowNo → Number → Type 0
CoversWrite bay row n = (n.0 ≤ bay.high.0) × (bay.empty ≡ false → n.0 ≤ (slot_of bay row).write_no.0)

-- every number under which a row was read or written is covered
abbrev pub NumbersAreCovered : Type 0
NumbersAreCovered =
    (mode : Mode) (rows patience : ℕ) (entries : List Entry) (bay : Bay) (clock : ℕ) (row : RowNo) → row.0 < rows →
    Replays (first_bay mode rows patience) 0 entries bay clock →
    AllByRecursion (CoversRead bay row) (reads_shown row (first_bay mode rows patience) entries)
    × AllByRecursion (CoversWrite bay row) (writes_shown row entries)

-- while a reader stands no note opens but its own, or by a seizure, which removes all readers
abbrev pub ReadersHoldOffNotes : Type 0
ReadersHoldOffNotes =
    (bay : Bay) (ask : Ask) (fails : Bool) (row : RowNo) (reader : Reader) (note : Note) → row.0 < length bay.slots →
    (slot_of bay row).note ≡ None → find (is_reader reader.id) (slot_of bay row).readers ≡ Some reader →
    (slot_of (rule bay ask fails).bay row).note ≡ Some note →
    (note.id ≡ reader.id) ⊎ ((slot_of (rule bay ask fails).bay row).readers ≡ [])

-- a release that was done found a note or a reader of its id
abbrev pub ReleasesFindHolders : Type 0
ReleasesFindHolders =
    (bay : Bay) (ask : Ask) (fails : Bool) (row : RowNo) (id : Number) (n : Option Number) → row.0 < length bay.slots →
    ask.what ≡ Release row id n → (rule bay ask fails).reply ≡ Done →
    (note_id (slot_of bay row).note id || is_some (find (is_reader id) (slot_of bay row).readers)) ≡ true

-- a bay without a device has only blank slots, and nothing stands on them
abbrev pub EmptyBaysAreBare : Type 0
EmptyBaysAreBare =
    (mode : Mode) (rows patience : ℕ) (entries : List Entry) (bay : Bay) (clock : ℕ) (row : RowNo) → row.0 < rows →
    Replays (first_bay mode rows patience) 0 entries bay clock → bay.empty ≡ true → slot_of bay row ≡ bare_slot (number 0)
