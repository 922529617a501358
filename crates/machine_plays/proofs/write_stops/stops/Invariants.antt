use Rattle.std.proofs.Common.{◌≡◌}
use Rattle.host_write.specs.Tries.{block_count}
use Rattle.machine_plays.proofs.write_stops.stops.Given as goal

abbrev pub invariant-loop-step : goal.invariant-loop-step
invariant-loop-step g l = block_count l.write ≡ block_count l.initial.write
