use Rattle.std.proofs.Common.{◌≡◌, ◌++◌, ◌+◌, map, take, length}
use Rattle.raid_base.specs.Cells.{plain_cell}
use Rattle.host_write.proofs.parity.push_plain.Given as goal

abbrev pub invariant-loop-block : goal.invariant-loop-block
invariant-loop-block l = (l.cells.items ≡ l.initial.cells.items ++ map plain_cell (take l.block-index l.blocks)) × (length l.cells.items ≡ length l.initial.cells.items + l.block-index)
