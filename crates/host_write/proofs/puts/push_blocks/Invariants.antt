use Rattle.std.proofs.Common.{◌≡◌, ◌++◌, ◌+◌, ◌<◌, map, take, length}
use Rattle.std.specs.List.{All}
use Rattle.stripe_layout.specs.Placement.{units_in}
use Rattle.virtual_objects.specs.Objects.{rank}
use Rattle.host_write.proofs.puts.push_blocks.Given as goal

abbrev pub invariant-loop-unit : goal.invariant-loop-unit
invariant-loop-unit l = (l.made.items ≡ l.initial.made.items ++ map (λ unit. l.part.at + rank unit (units_in l.n l.part.mask)) (take l.unit-index l.units)) × (length l.made.items ≡ length l.initial.made.items + l.unit-index) × All (λ block. block < 128) l.made.items
