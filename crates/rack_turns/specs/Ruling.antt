-- The rule of the table of bays: what holds between any two steps of any threads.
use Rattle.std.specs.Prelude.{◌≡◌, ◌⊎◌, ℕ, suc, ◌+◌, ◌<◌, ◌≤◌, false, All, List, [], length, slice_index, slice_index_or, Option, Some, None}
use mathlib.Core.Option.{some, none}
use mathlib.Core.Option as maybe
use lib.ListN.{get_elem?}
use Rattle.atomic_table.specs.Table.{State}
use Rattle.raid_base.specs.declared.messages.Call.{Call}
use Rattle.raid_base.specs.declared.messages.Entry.{Entry}
use Rattle.rack_turns.specs.declared.view.Meeting.{Meeting}
use Rattle.rack_turns.specs.declared.view.Role.{Role}
use Rattle.rack_turns.specs.declared.view.Role.TheVariants.{First, Guest, Gone}
use Rattle.rack_turns.specs.declared.view.Shadow.{Shadow}
use Rattle.rack_turns.specs.declared.view.View.{View}
use Rattle.rack_turns.specs.Views.{IfAt, EachAt, total, entries_of, calls_at, greatest_clock, last_clock, held, share_of, out_of}
use Rattle.rack_turns.specs.Shadows.{IsLater}

-- a bay at home, in nobody's turn, with this journal
pub record AtHome {S : Type 0} (now : S → Shadow) (openings : List Shadow) (words : List ℕ)
    (homes : List (maybe.Option S)) (bay : ℕ) (journal : List Entry) : Type 0 where
  pub free : slice_index words bay ≡ 0
  pub value : S
  pub home : get_elem? homes bay ≡ some (some value)
  pub later : IfAt openings bay (λ opening. IsLater opening (now value))
  pub keeps : (now value).journal ≡ journal

-- a bay that is out with a pass, which keeps this journal of it
pub record IsOut (words : List ℕ) (views : List View) (bay : ℕ) (journal : List Entry) : Type 0 where
  pub seat : ℕ
  pub view : View
  pub at : get_elem? views seat ≡ some view
  pub guest : view.role ≡ Guest
  pub turn : view.turn ≡ Some (held bay journal)
  pub taken : slice_index words bay ≡ suc view.standing.host.0

-- what holds of a pass that was given: it is its host's only one, the host's list is its own, and a turn that it has is
-- told by the bay's word
pub record GuestKnows (openings : List Shadow) (words : List ℕ) (journals : List (List Entry))
    (lists : ℕ → List Call) (seats : ℕ → Option ℕ) (seat : ℕ) (v : View) : Type 0 where
  pub host : v.standing.host.0 < 16
  pub opened : v.openings ≡ openings
  pub seated : seats v.standing.host.0 ≡ Some seat
  pub asked : lists v.standing.host.0 ≡ v.asked
  pub clock : greatest_clock v.asked ≤ total length journals
  pub turn : (bay : ℕ) (journal : List Entry) → v.turn ≡ Some (held bay journal)
      → (slice_index words bay ≡ suc v.standing.host.0) × (get_elem? journals bay ≡ some journal)

-- what holds of the first pass: it knows how many are out, which hosts were given one, and what those asked that are back
pub record FirstKnows (openings : List Shadow) (views : List View)
    (lists : ℕ → List Call) (seats : ℕ → Option ℕ) (seat : ℕ) (v : View) : Type 0 where
  pub seat_is : seat ≡ 0
  pub opened : v.openings ≡ openings
  pub no_turn : v.turn ≡ None
  pub out : v.standing.out ≡ total out_of views
  pub many : length v.ended ≡ 16
  pub back : (host : ℕ) → seats host ≡ None → lists host ≡ slice_index_or v.ended host []
  pub new : (host : ℕ) → slice_index_or v.standing.given host false ≡ false
      → (seats host ≡ None) × (slice_index_or v.ended host [] ≡ [])

abbrev pub KnowsBy : Role → List Shadow → List ℕ → List (List Entry) → List View
    → (ℕ → List Call) → (ℕ → Option ℕ) → ℕ → View → Type 0
KnowsBy First openings words journals views lists seats seat v = FirstKnows openings views lists seats seat v
KnowsBy Guest openings words journals views lists seats seat v = GuestKnows openings words journals lists seats seat v
KnowsBy Gone openings words journals views lists seats seat v = v.turn ≡ None

-- the seat is that of a pass that was given to the host
abbrev pub IsSeatOf : List View → ℕ → ℕ → Type 0
IsSeatOf views host seat =
    (v : View) × (get_elem? views seat ≡ some v) × (v.role ≡ Guest) × (v.standing.host.0 ≡ host)

-- a host that was met at a bay has its turn still, or has asked there since
abbrev pub WasThere : List ℕ → (ℕ → List Call) → Meeting → Type 0
WasThere words lists m =
    (slice_index words m.bay.0 ≡ suc m.holder.0) ⊎ (1 ≤ length (calls_at m.bay.0 (lists m.holder.0)))

-- `journals` are those of the bays, or as they were when the turn began. `lists` are what each host asked, and `seats` the
-- pass that each host has.
pub record Racked {S : Type 0} (now : S → Shadow) (openings : List Shadow) (s : State S View) : Type 0 where
  pub journals : List (List Entry)
  pub lists : ℕ → List Call
  pub seats : ℕ → Option ℕ
  pub wide : length s.words ≡ length openings
  pub deep : length s.homes ≡ length openings
  pub many : length journals ≡ length openings
  pub each_bay : EachAt journals (λ bay journal.
      AtHome now openings s.words s.homes bay journal ⊎ IsOut s.words s.views bay journal)
  pub each_list : EachAt journals (λ bay journal.
      (host : ℕ) → entries_of host journal ≡ calls_at bay (lists host))
  pub each_room : EachAt journals (λ bay journal. IfAt openings bay (λ opening.
      length journal + total (share_of bay) s.views ≤ opening.cap))
  pub each_clock : EachAt journals (λ bay journal. last_clock journal ≤ total length journals)
  pub each_view : EachAt s.views (λ seat v.
      KnowsBy v.role openings s.words journals s.views lists seats seat v)
  pub each_host : (host seat : ℕ) → seats host ≡ Some seat → IsSeatOf s.views host seat
  pub each_meeting : EachAt s.views (λ seat v. All (WasThere s.words lists) v.meetings)
