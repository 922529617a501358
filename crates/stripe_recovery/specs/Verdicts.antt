-- The code's verdict on a row, as the steps see it.
use Rattle.std.specs.Prelude.{Bool, true, nat_lt, Some, None}
use Rattle.attempts.specs.Recovery as steps
use Rattle.stripe_recovery.specs.declared.stages.Verdict.{Verdict}
use Rattle.stripe_recovery.specs.declared.stages.Verdict.TheVariants.{Leaves, Sums}

abbrev pub verdict_in : Verdict → steps.Verdict
verdict_in Leaves = steps.Leaves
verdict_in (Sums lost) = steps.Sums lost

-- the unit that it names is one of a row
abbrev pub is_within : Verdict → Bool
is_within Leaves = true
is_within (Sums None) = true
is_within (Sums (Some unit)) = nat_lt unit 15
