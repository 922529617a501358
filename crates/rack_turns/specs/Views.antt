-- What a pass knows, and what a host asked.
use Rattle.std.specs.Prelude.{◌≡◌, ℕ, ◌+◌, ◌-◌, ◌^◌, max, min, ◌==◌, Bool, true, false, if◌then◌else◌, List, [], ◌∷◌, ◌++◌, replicate, slice_index, slice_set, None}
use mathlib.Core.Option.{some}
use lib.ListN.{get_elem?}
use Rattle.raid_base.specs.declared.numbers.HostNo.{HostNo}
use Rattle.raid_base.specs.declared.numbers.BayNo.{BayNo}
use Rattle.raid_base.specs.declared.messages.Call.{Call}
use Rattle.raid_base.specs.declared.messages.Entry.{Entry}
use Rattle.rack_turns.specs.declared.view.Role.{Role}
use Rattle.rack_turns.specs.declared.view.Role.TheVariants.{First, Guest, Gone}
use Rattle.rack_turns.specs.declared.view.Held.{Held}
use Rattle.rack_turns.specs.declared.view.Meeting.{Meeting}
use Rattle.rack_turns.specs.declared.view.Standing.{Standing}
use Rattle.rack_turns.specs.declared.view.Shadow.{Shadow}
use Rattle.rack_turns.specs.declared.view.View.{View}

abbrev pub bay_no : ℕ → BayNo
bay_no k = record { 0 = k }

abbrev pub host_no : ℕ → HostNo
host_no h = record { 0 = h }

-- P holds of the element at this place, if there is one
abbrev pub IfAt : {X : Type 0} → List X → ℕ → (X → Type 0) → Type 0
IfAt {X} xs k P = (x : X) → get_elem? xs k ≡ some x → P x

-- P holds of each element, at its place
abbrev pub EachAt : {X : Type 0} → List X → (ℕ → X → Type 0) → Type 0
EachAt {X} xs P = (k : ℕ) (x : X) → get_elem? xs k ≡ some x → P k x

-- f of each, added up
abbrev pub total : {X : Type 0} → (X → ℕ) → List X → ℕ
total f [] = 0
total f (x ∷ xs) = f x + total f xs

-- 1 where it is set
abbrev pub flag : Bool → ℕ
flag true = 1
flag false = 0

-- the entries of a host
abbrev pub entries_of : ℕ → List Entry → List Entry
entries_of host [] = []
entries_of host (entry ∷ entries) =
    if entry.ask.host.0 == host then entry ∷ entries_of host entries else entries_of host entries

-- a call as an entry of its bay
abbrev pub entry_of : Call → Entry
entry_of call = record { ask = call.ask; clock = call.answer.clock; reply = call.answer.reply }

-- an entry of a bay as a call
abbrev pub call_of : ℕ → Entry → Call
call_of bay entry = record {
  bay = bay_no bay;
  ask = entry.ask;
  answer = record { clock = entry.clock; reply = entry.reply };
}

-- the calls at a bay, as entries
abbrev pub calls_at : ℕ → List Call → List Entry
calls_at bay [] = []
calls_at bay (call ∷ calls) =
    if call.bay.0 == bay then entry_of call ∷ calls_at bay calls else calls_at bay calls

-- the greatest clock that was answered, 0 where there is none
abbrev pub greatest_clock : List Call → ℕ
greatest_clock [] = 0
greatest_clock (call ∷ calls) = max call.answer.clock (greatest_clock calls)

-- the clock after these entries
abbrev pub clock_after : ℕ → List Entry → ℕ
clock_after clock [] = clock
clock_after clock (entry ∷ entries) = clock_after entry.clock entries

abbrev pub last_clock : List Entry → ℕ
last_clock entries = clock_after 0 entries

abbrev pub held : ℕ → List Entry → Held
held bay journal = record { bay = bay; journal = journal }

abbrev pub meeting : ℕ → ℕ → Meeting
meeting bay host = record { bay = bay_no bay; holder = host_no host }

-- what may still be asked of a bay, or given
abbrev pub share_by : Role → Standing → ℕ → ℕ
share_by First standing bay = standing.room
share_by Guest standing bay = slice_index standing.left bay
share_by Gone standing bay = 0

abbrev pub share_of : ℕ → View → ℕ
share_of bay v = share_by v.role v.standing bay

-- 1 for a pass that is out
abbrev pub out_by : Role → ℕ
out_by First = 0
out_by Guest = 1
out_by Gone = 0

abbrev pub out_of : View → ℕ
out_of v = out_by v.role

abbrev pub cap_of : Shadow → ℕ
cap_of bay = bay.cap

-- the least cap
abbrev pub least_cap : List Shadow → ℕ
least_cap [] = 2 ^ 32 - 1
least_cap (bay ∷ bays) = min (least_cap bays) bay.cap

-- what the first pass has to keep at the start
abbrev pub first_standing : ℕ → Standing
first_standing room = record {
  host = host_no 0;
  left = replicate 16 0;
  room = room;
  out = 0;
  given = replicate 16 false;
}

-- what a pass of a host has to keep at the start
abbrev pub new_standing : ℕ → ℕ → Standing
new_standing host quota = record {
  host = host_no host;
  left = replicate 16 quota;
  room = 0;
  out = 0;
  given = replicate 16 false;
}

-- after an answer of this bay: it may be asked once less
abbrev pub after_call : ℕ → Standing → Standing
after_call bay standing = record standing {
  left = slice_set standing.left bay (slice_index standing.left bay - 1);
}

-- after a pass was given to a host: there is that much less room, and one more is out
abbrev pub after_gift : ℕ → ℕ → Standing → Standing
after_gift host quota standing = record standing {
  room = standing.room - quota;
  out = standing.out + 1;
  given = slice_set standing.given host true;
}

-- after a pass was joined: one less is out
abbrev pub after_join : Standing → Standing
after_join standing = record standing { out = standing.out - 1 }

-- the first pass at the start
abbrev pub first_view : List Shadow → View
first_view openings = record {
  role = First;
  standing = first_standing (least_cap openings);
  openings = openings;
  asked = [];
  meetings = [];
  turn = None;
  ended = replicate 16 [];
}

-- a pass that is none any more
abbrev pub gone : View
gone = record {
  role = Gone;
  standing = record { host = host_no 0; left = []; room = 0; out = 0; given = [] };
  openings = [];
  asked = [];
  meetings = [];
  turn = None;
  ended = [];
}

-- the pass after it asked: the entry is added to its list, and it may ask once less there
abbrev pub with_call : ℕ → Entry → View → View
with_call bay entry v = record v {
  standing = after_call bay v.standing;
  asked = v.asked ++ call_of bay entry ∷ [];
  turn = None;
}

-- the pass after it met a holder
abbrev pub with_meeting : ℕ → ℕ → View → View
with_meeting bay host v = record v { meetings = v.meetings ++ meeting bay host ∷ [] }

-- the first pass after it gave a pass
abbrev pub giving : ℕ → ℕ → View → View
giving host quota v = record v { standing = after_gift host quota v.standing }

-- the pass that was given: it has asked nothing
abbrev pub new_guest : ℕ → ℕ → View → View
new_guest host quota v = record {
  role = Guest;
  standing = new_standing host quota;
  openings = v.openings;
  asked = [];
  meetings = [];
  turn = None;
  ended = [];
}

-- the first pass after another was joined: what that asked is kept, and whom it met
abbrev pub joined : View → View → View
joined v w = record v {
  standing = after_join v.standing;
  meetings = v.meetings ++ w.meetings;
  ended = slice_set v.ended w.standing.host.0 w.asked;
}
