-- What the operator remembers: the device that was lost, and whether it was fitted since.
use Rattle.std.specs.Prelude.{◌==◌, ◌&&◌, not, Bool, true, false, Option, Some, None}
use Rattle.raid_base.specs.declared.numbers.BayNo.{BayNo}
use Rattle.histories.specs.declared.operator.Gone.{Gone}

-- this bay is the one that is gone, and is fitted or not as said
abbrev pub is_gone : BayNo → Bool → Option Gone → Bool
is_gone bay fitted None = false
is_gone bay true (Some gone) = (gone.bay.0 == bay.0) && gone.fitted
is_gone bay false (Some gone) = (gone.bay.0 == bay.0) && not gone.fitted
