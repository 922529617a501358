use Rattle.std.proofs.Common.{◌≡◌, map, take}
use Rattle.serial_array.specs.Blocks.{zero_blocks}
use Rattle.serial_array.proofs.blocks.SerialArray.make.Given as goal

abbrev pub invariant-loop-object : goal.invariant-loop-object
invariant-loop-object l = l.objects.items ≡ map (zero_blocks l.units) (take l.object-index l.object-items)
