use Rattle.std.proofs.Common.{◌≡◌, take, fold}
use Rattle.raid_base.specs.Cells.{zero_cell}
use Rattle.raid_xor.specs.Parities.{fold_whole}
use Rattle.attempts.proofs.whole_rows.parity_of.Given as goal

abbrev pub invariant-loop-cell : goal.invariant-loop-cell
invariant-loop-cell l = l.acc ≡ fold fold_whole zero_cell (take l.cell-index l.cells)
