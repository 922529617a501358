use Rattle.std.proofs.Common.{◌≡◌}
use Rattle.host_write.specs.Tries.{block_count}
use Rattle.machine_plays.proofs.write_stops.takes.Given as goal

abbrev pub invariant-loop-reply : goal.invariant-loop-reply
invariant-loop-reply l = block_count l.write ≡ block_count l.initial.write
