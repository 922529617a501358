-- Counts of faults. A count that stands at its type's end counts as risen, by any number.
use Rattle.std.specs.Prelude.{◌≡◌, ℕ, ◌+◌, ◌-◌, ◌^◌, ◌≤◌, min, Bool, true, Result, is_err}

-- the count rose by at least so many
abbrev pub RisesBy : ℕ → ℕ → ℕ → Type 0
RisesBy n before now = min (before + n) (2 ^ 64 - 1) ≤ now

-- the count rose
abbrev pub Rises : ℕ → ℕ → Type 0
Rises before now = RisesBy 1 before now

-- the count after one more failure
abbrev pub risen : ℕ → ℕ
risen count = min (count + 1) (2 ^ 64 - 1)

-- the count never falls, and a failure that is told has raised it
pub record HasCause (before now : ℕ) (fails : Bool) : Type 0 where
  pub later : before ≤ now
  pub failed : fails ≡ true → Rises before now
