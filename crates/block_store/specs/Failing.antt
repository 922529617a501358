-- A store in memory, some of whose calls fail.
use Rattle.std.specs.Prelude.{ℕ, ◌+◌, ◌-◌, ◌^◌, ◌==◌, min, Bool, if◌then◌else◌, List, slice_set}
use Rattle.std.specs.List.{list_any}

-- its blocks, the calls that fail, how many calls were made, and how many of them failed
pub record Failing : Type 0 where
  pub content : List (List ℕ)
  pub failing : List ℕ
  pub calls : ℕ
  pub faults : ℕ

-- whether its next call fails
abbrev pub fails : Failing → Bool
fails store = list_any (λ call. call == store.calls) store.failing

-- once a call is made: the call is counted, and its failure if it fails. The count of calls stands still at its end
abbrev pub called : Failing → Failing
called store = record store {
  calls = min (store.calls + 1) (2 ^ 64 - 1);
  faults = if fails store then store.faults + 1 else store.faults;
}

-- once a write of a block is made
abbrev pub written : Failing → ℕ → List ℕ → Failing
written store row bytes = record (called store) { content = if fails store then store.content else slice_set store.content row bytes }
