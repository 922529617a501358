use Rattle.std.proofs.Common.{◌≡◌, take}
use Rattle.raid_xor.specs.Sums.{sum_of}
use Rattle.raid_xor.proofs.sum_of.Given as goal

abbrev pub invariant-loop-cell : goal.invariant-loop-cell
invariant-loop-cell l = l.sum ≡ sum_of (take l.cell-index l.cells)
