use Rattle.std.proofs.Common.{◌≡◌, replicate}
use Rattle.raid_base.specs.Cells.{zeros}
use Rattle.array.proofs.devices.Given as goal

abbrev pub invariant-loop-device : goal.invariant-loop-device
invariant-loop-device l = l.stores.items ≡ replicate l._device (replicate l.blocks zeros)
