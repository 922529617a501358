-- A store over a file.
use Rattle.std.specs.Prelude.{ℕ}

-- what is known of it: how many blocks it has, and how often it has failed
pub record OnFile : Type 0 where
  pub size : ℕ
  pub faults : ℕ
