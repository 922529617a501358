use Rattle.std.proofs.Common.{◌≡◌, drop}
use Rattle.serial_array.specs.Blocks.{contents_of}
use Rattle.serial_array.proofs.blocks.SerialArray.contents_of.Given as goal

abbrev pub invariant-loop-object : goal.invariant-loop-object
invariant-loop-object l = contents_of l.object-items l.name ≡ contents_of (drop l.object-index l.object-items) l.name
