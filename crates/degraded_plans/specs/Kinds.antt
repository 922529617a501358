-- What a write finds missing of a row.
use Rattle.std.specs.Prelude.{ℕ, if◌then◌else◌, Option, Some, None}
use Rattle.raid_base.specs.declared.numbers.BayNo.{BayNo}
use Rattle.raid_base.specs.declared.numbers.RowNo.{RowNo}
use Rattle.raid_base.specs.Cells.{has_unit}
use Rattle.stripe_layout.specs.Placement.{unit_at}
use Rattle.degraded_plans.specs.declared.kinds.RowKind.{RowKind}
use Rattle.degraded_plans.specs.declared.kinds.RowKind.TheVariants.{Whole, NoParity, NoTarget, NoOther}

-- the missing unit is wanted or not, and none is the parity
abbrev pub kind_without : ℕ → Option ℕ → RowKind
kind_without mask None = NoParity
kind_without mask (Some unit) = if has_unit mask unit then NoTarget unit else NoOther unit

-- by the bay that is missing
abbrev pub kind : ℕ → RowNo → ℕ → Option BayNo → RowKind
kind n row mask None = Whole
kind n row mask (Some bay) = kind_without mask (unit_at n row bay)
