-- What a call appends to a sink.
use Rattle.std.specs.Prelude.{◌≡◌, ℕ, Bool, true, List, ◌++◌, Result, OnOk, OnErr, is_err}
use Rattle.raid_base.specs.declared.status.Failed.{Failed}
use Rattle.raid_base.specs.Counts.{HasCause}
use Rattle.raid_base.specs.Streams.{AppendsPart}

-- A call that was to append a text has done so, as far as the sink tells it. Where it has failed, it has appended a first part,
-- and the count of faults rose
pub record Appends {K : Type 0} (tells : K → Bool) (written : K → List ℕ) (faults : K → ℕ) (before : K) (text : List ℕ) (result : Result Unit Failed) (now : K) : Type 0 where
  pub telling : tells now ≡ tells before
  pub appended : tells before ≡ true → OnOk result (written now ≡ written before ++ text)
  pub part : tells before ≡ true → OnErr result (AppendsPart (written before) (written now) text)
  pub cause : HasCause (faults before) (faults now) (is_err result)
