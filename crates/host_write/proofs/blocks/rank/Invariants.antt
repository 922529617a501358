use Rattle.std.proofs.Common.{◌≡◌, ◌+◌, drop}
use Rattle.virtual_objects.specs.Objects.{rank}
use Rattle.host_write.proofs.blocks.rank.Given as goal

abbrev pub invariant-loop-i : goal.invariant-loop-i
invariant-loop-i l = rank l.unit l.units ≡ l.i + rank l.unit (drop l.i l.units)
