-- What writing a text to a sink does.
use Rattle.std.specs.Prelude.{◌≡◌, ℕ, Bool, true, List, ◌++◌, Result, OnOk, OnErr, is_err}
use Rattle.raid_base.specs.declared.status.Failed.{Failed}
use Rattle.raid_base.specs.Counts.{HasCause}
use Rattle.raid_base.specs.Streams.{AppendsPart}

-- the text is appended, or some first part of it where the sink fails, which only a fault of it causes
pub record Writes {K : Type 0} (written : K → List ℕ) (tells : K → Bool) (faults : K → ℕ) (old : K) (later : K) (result : Result (Unit {0}) Failed) (text : List ℕ) : Type 0 where
  pub appended : tells old ≡ true → OnOk result (written later ≡ written old ++ text)
  pub part : tells old ≡ true → OnErr result (AppendsPart (written old) (written later) text)
  pub cause : HasCause (faults old) (faults later) (is_err result)
  pub telling : tells later ≡ tells old
