-- What a pass shows of what it knows, and what a call makes of it.
use Rattle.std.specs.Prelude.{◌≡◌, ◌≢◌, ℕ, suc, ◌<◌, ◌≤◌, max, All, Bool, true, false, IsTrue, List, [], ◌∷◌, ◌++◌, length, replicate, slice_index, slice_index_or, Some, None}
use mathlib.Core.Option.{some}
use lib.ListN.{get_elem?}
use Rattle.atomic_table.specs.Table.{Me}
use Rattle.atomic_table.specs.Seated.{TableId}
use Rattle.block_store.specs.declared.store.Store.{Ghosts}
use Rattle.raid_base.specs.Fits.{fits}
use Rattle.raid_base.specs.declared.messages.Answer.{Answer}
use Rattle.raid_base.specs.declared.messages.Ask.{Ask}
use Rattle.raid_base.specs.declared.messages.Entry.{Entry}
use Rattle.raid_base.specs.declared.numbers.BayNo.{BayNo}
use Rattle.raid_base.specs.declared.numbers.HostNo.{HostNo}
use Rattle.slot_rules.specs.Replay.{next_clock}
use Rattle.slot_rules.specs.Serving.{IsAskFor}
use Rattle.bay_device.specs.declared.bay.Bay.{Bay}
use Rattle.rack_turns.specs.declared.pass.Pass.{Pass}
use Rattle.rack_turns.specs.declared.rack.Rack.{Rack}
use Rattle.rack_turns.specs.declared.rack.RackFault.{RackFault}
use Rattle.rack_turns.specs.declared.rack.RackFault.TheVariants as fault
use Rattle.rack_turns.specs.declared.rack.Try.{Try}
use Rattle.rack_turns.specs.declared.rack.Try.TheVariants as tried
use Rattle.rack_turns.specs.declared.view.Meeting.{Meeting}
use Rattle.rack_turns.specs.declared.view.Role.{Role}
use Rattle.rack_turns.specs.declared.view.Role.TheVariants.{First, Guest}
use Rattle.rack_turns.specs.declared.view.Shadow.{Shadow}
use Rattle.rack_turns.specs.declared.view.View.{View}
use Rattle.rack_turns.specs.Views.{IfAt, EachAt, total, flag, greatest_clock, last_clock, held, cap_of, gone, first_view, least_cap, giving, new_guest, joined, with_call, with_meeting, after_call, after_gift, after_join}
use Rattle.rack_turns.specs.Shadows.{shadows, IsLater}

-- what a pass tells by its calls: whether it is the first one
abbrev pub is_first : Pass → Bool
is_first pass = pass.is_first

-- its host
abbrev pub host_of : Pass → HostNo
host_of pass = pass.standing.host

-- how often it may still ask at the bay
abbrev pub left_at : Pass → BayNo → ℕ
left_at pass bay = slice_index pass.standing.left bay.0

-- the greatest clock that it was answered
abbrev pub top_clock : Pass → ℕ
top_clock pass = pass.clock

-- how often the passes that it may still give may ask at each bay
abbrev pub room_of : Pass → ℕ
room_of pass = pass.standing.room

-- how many passes are out
abbrev pub out_count : Pass → ℕ
out_count pass = pass.standing.out

-- whether the host was given a pass
abbrev pub was_given : Pass → HostNo → Bool
was_given pass host = slice_index_or pass.standing.given host.0 false

-- what a pass knows
abbrev pub seen : Pass → View
seen pass = slice_index_or pass.badge.views 0 gone

abbrev pub role_of : Bool → Role
role_of true = First
role_of false = Guest

-- the pass of a table of these bays: it has no turn, and what it shows is what it knows
pub record IsPass (table : TableId) (openings : List Shadow) (pass : Pass) : Type 0 where
  pub table_is : pass.badge.table_id ≡ table
  pub one : pass.badge.views ≡ seen pass ∷ []
  pub opened : (seen pass).openings ≡ openings
  pub role : (seen pass).role ≡ role_of pass.is_first
  pub standing : (seen pass).standing ≡ pass.standing
  pub no_turn : (seen pass).turn ≡ None
  pub clock : pass.clock ≡ greatest_clock (seen pass).asked
  pub many : length pass.standing.given ≡ 16
  pub few : pass.standing.out ≤ total flag pass.standing.given
  pub first_asks_not : pass.is_first ≡ true → pass.standing.left ≡ replicate 16 0

-- the bays as they were when the rack was made
abbrev pub openings_of : {D : Type 0} {g : Ghosts D} → Rack D g → List Shadow
openings_of rack = shadows rack.table.shared.key.value.items

-- the pass is one of this rack
abbrev pub IsPassOf : {D : Type 0} {g : Ghosts D} → Rack D g → Pass → Type 0
IsPassOf rack pass = IsPass rack.table.shared.table_id (openings_of rack) pass

-- the sum of the caps that the bays had
abbrev pub caps_of : {D : Type 0} {g : Ghosts D} → Rack D g → ℕ
caps_of rack = total cap_of (openings_of rack)

-- an ask that may be handled by this bay
abbrev pub IsAskAt : List Shadow → ℕ → Ask → Type 0
IsAskAt openings bay ask = IfAt openings bay (λ opening. IsAskFor (length opening.slots.slots) ask)

abbrev pub entry_by : Ask → Answer → Entry
entry_by ask answer = record { ask = ask; clock = answer.clock; reply = answer.reply }

-- a view from which a turn may begin
pub record IsReady (host : ℕ) (v : View) : Type 0 where
  pub guest : v.role ≡ Guest
  pub no_turn : v.turn ≡ None
  pub host_is : v.standing.host.0 ≡ host

-- the seat has this bay alone in hand, and P holds of it
abbrev pub HoldsBay : {S : Type 0} → ℕ → Me S View → (S → Type 0) → Type 0
HoldsBay {S} bay m P = (value : S) × (m.1 ≡ (bay, value) ∷ []) × P value

-- what a bay is after it answered
pub record HasServed (ask : Ask) (answer : Answer) (before after : Shadow) : Type 0 where
  pub journal : after.journal ≡ before.journal ++ entry_by ask answer ∷ []
  pub clock : answer.clock ≡ next_clock before.clock ask
  pub later : (opening : Shadow) → IsLater opening before → IsLater opening after

-- a turn may end: the bay in hand has one entry more than the journal that was kept, and that is of the pass's host
pub record MayEnd {S : Type 0} (now : S → Shadow) (bay : ℕ) (m : Me S View) : Type 0 where
  pub value : S
  pub journal : List Entry
  pub entry : Entry
  pub opening : Shadow
  pub guest : m.0.role ≡ Guest
  pub turn : m.0.turn ≡ Some (held bay journal)
  pub hand : m.1 ≡ (bay, value) ∷ []
  pub gained : (now value).journal ≡ journal ++ entry ∷ []
  pub host : entry.ask.host.0 ≡ m.0.standing.host.0
  pub clock : entry.clock ≤ suc (max (last_clock journal) (greatest_clock m.0.asked))
  pub opening_is : get_elem? m.0.openings bay ≡ some opening
  pub later : IsLater opening (now value)
  pub left : 0 < slice_index m.0.standing.left bay

-- what a turn tells
pub record IsTurn (bay : ℕ) (ask : Ask) (answer : Answer) (v w : View) : Type 0 where
  pub view : w ≡ with_call bay (entry_by ask answer) v
  pub later : ask.clock < answer.clock
  pub bound : answer.clock ≤ total cap_of v.openings
  pub fitting : IsTrue (fits ask.what answer.reply)

-- the turn of another host was met
pub record IsMeeting (bay holder : ℕ) (v w : View) : Type 0 where
  pub view : w ≡ with_meeting bay holder v
  pub other : holder ≢ v.standing.host.0

-- by what was tried
abbrev pub TriedBy : ℕ → Ask → View → View → Try → Type 0
TriedBy bay ask v w (tried.Answer answer) = IsTurn bay ask answer v w
TriedBy bay ask v w (tried.Engaged holder) = IsMeeting bay holder.0 v w

-- what an answer makes of a pass: the entry is added to its list, it may ask once less at that bay, and its clock is the
-- greatest that it was answered
pub record HasAsked (bay : ℕ) (ask : Ask) (answer : Answer) (old new : Pass) : Type 0 where
  pub view : seen new ≡ with_call bay (entry_by ask answer) (seen old)
  pub first : new.is_first ≡ old.is_first
  pub standing : new.standing ≡ after_call bay old.standing
  pub clock : new.clock ≡ max old.clock answer.clock

-- what a meeting makes of a pass: its meetings grow by it alone
pub record HasMetOne (bay holder : ℕ) (old new : Pass) : Type 0 where
  pub view : seen new ≡ with_meeting bay holder (seen old)
  pub first : new.is_first ≡ old.is_first
  pub standing : new.standing ≡ old.standing
  pub clock : new.clock ≡ old.clock
  pub other : holder ≢ old.standing.host.0

-- an answer's reply fits the ask, and its clock is above the ask's and at most the sum of the caps
pub record IsAnswerTo (caps : ℕ) (ask : Ask) (answer : Answer) : Type 0 where
  pub fitting : IsTrue (fits ask.what answer.reply)
  pub later : ask.clock < answer.clock
  pub bound : answer.clock ≤ caps

-- what a try tells of the pass
abbrev pub IsTried : ℕ → ℕ → Ask → Pass → Pass → Try → Type 0
IsTried caps bay ask old new (tried.Answer answer) =
    HasAsked bay ask answer old new × IsAnswerTo caps ask answer
IsTried caps bay ask old new (tried.Engaged holder) = HasMetOne bay holder.0 old new

-- the first pass at the start: no host was given a pass, none is out, and it may give as much as the least cap allows
pub record IsNewFirst (openings : List Shadow) (pass : Pass) : Type 0 where
  pub view : seen pass ≡ first_view openings
  pub first : pass.is_first ≡ true
  pub room : room_of pass ≡ least_cap openings
  pub out : out_count pass ≡ 0
  pub given : pass.standing.given ≡ replicate 16 false
  pub clock : pass.clock ≡ 0

-- bays that were asked nothing yet
abbrev pub AreNew : List Shadow → Type 0
AreNew bays = EachAt bays (λ bay opening. (opening.journal ≡ []) × (opening.clock ≡ 0))

-- the bays that a fault hands back
abbrev pub bays_back : {D : Type 0} {g : Ghosts D} → RackFault D g → List (Bay D g)
bays_back (fault.NoMemory bays) = bays.items

-- a first pass that may give a pass to this host
pub record MayGive (host quota : ℕ) (v : View) : Type 0 where
  pub first : v.role ≡ First
  pub below : host < 16
  pub room : quota ≤ v.standing.room
  pub new : slice_index_or v.standing.given host false ≡ false
  pub many : length v.standing.given ≡ 16

-- what giving a pass makes of the first pass: it has that much less room, and the host was given one, which is out
pub record HasGiven (host quota : ℕ) (old new : Pass) : Type 0 where
  pub view : seen new ≡ giving host quota (seen old)
  pub first : new.is_first ≡ old.is_first
  pub standing : new.standing ≡ after_gift host quota old.standing
  pub clock : new.clock ≡ old.clock

-- the pass that was given is its host's, has that quota at each bay and has asked nothing
pub record IsNewGuest (host quota : ℕ) (old new : Pass) : Type 0 where
  pub view : seen new ≡ new_guest host quota (seen old)
  pub first : new.is_first ≡ false
  pub host_is : new.standing.host.0 ≡ host
  pub left : new.standing.left ≡ replicate 16 quota
  pub clock : new.clock ≡ 0

-- what a join makes of the first pass: one pass less is out, and what that asked is kept
pub record HasJoined (other old new : Pass) : Type 0 where
  pub view : seen new ≡ joined (seen old) (seen other)
  pub first : new.is_first ≡ old.is_first
  pub standing : new.standing ≡ after_join old.standing
  pub clock : new.clock ≡ old.clock

-- what so many tries that met other hosts make of a pass
pub record HasMetSome (bay : ℕ) (old new : Pass) : Type 0 where
  pub met : List Meeting
  pub others : All (λ (m : Meeting). (m.bay.0 ≡ bay) × (m.holder.0 ≢ old.standing.host.0)) met
  pub view : seen new ≡ record (seen old) { meetings = (seen old).meetings ++ met }
  pub first : new.is_first ≡ old.is_first
  pub standing : new.standing ≡ old.standing
  pub clock : new.clock ≡ old.clock

-- what an answer makes of a pass that met other hosts before: its meetings grow by these alone
pub record HasAskedAt (bay : ℕ) (ask : Ask) (answer : Answer) (old new : Pass) : Type 0 where
  pub before : Pass
  pub meets : HasMetSome bay old before
  pub asks : HasAsked bay ask answer before new
