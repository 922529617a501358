-- The next entry of each journal, and which of them comes first.
use Rattle.std.specs.Prelude.{◌≡◌, ◌⊎◌, ℕ, ◌+◌, ◌<◌, List, [], Option, Some, None, slice_get, slice_index, slice_index_or, map, length, ◌^◌}
use Rattle.std.specs.Borrow.{Bor}
use Rattle.std.specs.List.{AllByRecursion}
use Rattle.raid_base.specs.declared.messages.Entry.{Entry}
use Rattle.stripe_layout.specs.Placement.{bay}
use Rattle.clock_merge.specs.Merge.{Line, IsBefore}

-- an entry of the journal of a bay
abbrev pub line_at : ℕ → Entry → Line
line_at k entry = record { bay = bay k; entry = entry }

-- the entry at its place in the journal of each bay, none at the end
abbrev pub heads_at : List (List Entry) → List ℕ → ℕ → Option Entry
heads_at journals places k = slice_get (slice_index_or journals k []) (slice_index places k)

-- the head of this bay is before those of the others below n
pub record IsFirstAt (heads : ℕ → Option Entry) (n at : ℕ) (entry : Entry) : Type 0 where
  pub within : at < n
  pub is : heads at ≡ Some entry
  pub first : (k : ℕ) → k < n → (other : Entry) → heads k ≡ Some other → (k ≡ at) ⊎ IsBefore (line_at at entry) (line_at k other)

-- the first head of the bays below n with its bay, and none where all are at their ends
abbrev pub IsFirst : (ℕ → Option Entry) → ℕ → Option (ℕ × Entry) → Type 0
IsFirst heads n None = (k : ℕ) → k < n → heads k ≡ None
IsFirst heads n (Some head) = IsFirstAt heads n head.0 head.1

-- what is the first head of the bays before this one becomes the first of those up to it
abbrev pub GoesFirst : ℕ → Option Entry → Option (ℕ × Entry) → Option (ℕ × Entry) → Type 0
GoesFirst at head first next = (heads : ℕ → Option Entry) → IsFirst heads at first → heads at ≡ head → IsFirst heads (at + 1) next

-- the entries of journals that are looked at
abbrev pub entries_in : List (Bor (List Entry)) → List (List Entry)
entries_in journals = map (λ journal. journal.now) journals

-- none of them has 2^63 entries, as no list in memory has
abbrev pub AreShort : List (List Entry) → Type 0
AreShort journals = AllByRecursion (λ (entries : List Entry). length entries < 2 ^ 63) journals
