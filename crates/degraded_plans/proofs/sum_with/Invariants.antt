use Rattle.std.proofs.Common.{◌≡◌, ◌∷◌, take}
use Rattle.raid_xor.specs.Sums.{sum_of}
use Rattle.degraded_plans.proofs.sum_with.Given as goal

abbrev pub invariant-loop-cell : goal.invariant-loop-cell
invariant-loop-cell l = l.sum ≡ sum_of (l.fn.parity ∷ take l.cell-index l.others)
