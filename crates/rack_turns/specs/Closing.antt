-- The bays of a rack that is closed.
use Rattle.std.specs.Prelude.{◌≡◌, ℕ, ◌≤◌, All, List, [], length, slice_index_or}
use mathlib.Core.Option.{some}
use lib.ListN.{get_elem?}
use Rattle.raid_base.specs.declared.messages.Call.{Call}
use Rattle.raid_base.specs.declared.messages.Entry.{Entry}
use Rattle.rack_turns.specs.declared.view.Meeting.{Meeting}
use Rattle.rack_turns.specs.declared.view.Shadow.{Shadow}
use Rattle.rack_turns.specs.Views.{IfAt, entries_of, calls_at}
use Rattle.rack_turns.specs.Shadows.{IsLater}

-- the bay is what it was when the rack was made, later on, and for each host the entries of its journal are what that
-- host's pass asked there, in order: none for a host that was given no pass
pub record IsClosedBay (opening : Shadow) (ended : List (List Call)) (bay : ℕ) (now : Shadow) : Type 0 where
  pub later : IsLater opening now
  pub entries : (host : ℕ) → entries_of host now.journal ≡ calls_at bay (slice_index_or ended host [])

-- the bays come back in order
pub record AreClosed (openings : List Shadow) (ended : List (List Call)) (bays : List Shadow) : Type 0 where
  pub many : length bays ≡ length openings
  pub each : (bay : ℕ) (opening now : Shadow) → get_elem? openings bay ≡ some opening
      → get_elem? bays bay ≡ some now → IsClosedBay opening ended bay now

-- an entry of the host stands in the journal
abbrev pub HasEntryOf : ℕ → List Entry → Type 0
HasEntryOf host journal = 1 ≤ length (entries_of host journal)

-- who was met at a bay has an entry there
abbrev pub WereThere : List Meeting → List Shadow → Type 0
WereThere meetings bays = All (λ (m : Meeting). IfAt bays m.bay.0 (λ bay. HasEntryOf m.holder.0 bay.journal)) meetings
