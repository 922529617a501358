-- What a source has left, and what was written to a sink.
use Rattle.std.specs.Prelude.{◌≡◌, ℕ, ◌-◌, ◌≤◌, ◌==◌, nat_lt, min, Bool, ◌||◌, if◌then◌else◌, List, ◌++◌, length, take, drop, Result, Ok, Err}
use Rattle.std.specs.List.{list_any}
use Rattle.raid_base.specs.declared.status.Failed.{Failed}
use Rattle.raid_base.specs.Counts.{risen}

-- the first n bytes that were left stand at the head of the piece, and are no longer left
pub record Moves (n : ℕ) (left later piece : List ℕ) : Type 0 where
  pub within : n ≤ length left
  pub moved : take n piece ≡ take n left
  pub rest : later ≡ drop n left

-- the first n bytes of the piece were appended
pub record AppendsFirst (n : ℕ) (written later piece : List ℕ) : Type 0 where
  pub within : n ≤ length piece
  pub appended : later ≡ written ++ take n piece

-- some first part of the piece was
abbrev pub AppendsPart : List ℕ → List ℕ → List ℕ → Type 0
AppendsPart written later piece = (n : ℕ) × AppendsFirst n written later piece

-- the bytes end so
abbrev pub EndsWith : List ℕ → List ℕ → Type 0
EndsWith bytes rest = (gone : List ℕ) × (bytes ≡ gone ++ rest)

-- some first bytes that were held back are no longer, and the rest is
abbrev pub HoldsRest : List ℕ → List ℕ → Type 0
HoldsRest held later = (gone : List ℕ) × (held ≡ gone ++ later)

-- a source in memory: the bytes that are left, which of its calls fail, how many were made, and how many of them failed
pub record Feed : Type 0 where
  pub left : List ℕ
  pub failing : List ℕ
  pub calls : ℕ
  pub faults : ℕ

-- a sink in memory: what was written, how much it takes in all, which of its calls fail, how many were made, and how many failed
pub record Page : Type 0 where
  pub written : List ℕ
  pub room : ℕ
  pub failing : List ℕ
  pub calls : ℕ
  pub faults : ℕ

-- whether the call of this number fails
abbrev pub is_failing : List ℕ → ℕ → Bool
is_failing failing call = list_any (λ number. number == call) failing

-- how many bytes a read into so much room moves
abbrev pub moved_by : Feed → ℕ → ℕ
moved_by feed room = if is_failing feed.failing feed.calls then 0 else min room (length feed.left)

-- what it answers
abbrev pub read_gives : Feed → ℕ → Result ℕ Failed
read_gives feed room = if is_failing feed.failing feed.calls then Err (record {}) else Ok (moved_by feed room)

-- and what it leaves
abbrev pub read_leaves : Feed → ℕ → Feed
read_leaves feed room = record feed {
  left = drop (moved_by feed room) feed.left;
  calls = risen feed.calls;
  faults = if is_failing feed.failing feed.calls then risen feed.faults else feed.faults;
}

-- how many bytes of a piece of this length are written: what there is room for, and nothing where the call is one that fails
abbrev pub taken_of : Page → ℕ → ℕ
taken_of page n = if is_failing page.failing page.calls then 0 else min n (page.room - length page.written)

-- whether a write of such a piece fails
abbrev pub write_fails : Page → ℕ → Bool
write_fails page n = is_failing page.failing page.calls || nat_lt (taken_of page n) n

-- what a write of the piece leaves
abbrev pub write_leaves : Page → List ℕ → Page
write_leaves page piece = record page {
  written = page.written ++ take (taken_of page (length piece)) piece;
  calls = risen page.calls;
  faults = if write_fails page (length piece) then risen page.faults else page.faults;
}
