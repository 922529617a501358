use Rattle.std.proofs.Common.{◌≡◌}
use Rattle.std.specs.Vec.{vec_len, vec_capacity}
use Rattle.host_workers.proofs.Backs.{AreTaking}
use Rattle.host_workers.proofs.playing.take_passes.Given as goal

abbrev pub invariant-loop-worker : goal.invariant-loop-worker
invariant-loop-worker g l = record {
  taking : AreTaking l.rack l.initial.first l.first l.initial.hosts.items l.hosts.items l.initial.workers.items l.workers.items (vec_capacity l.initial.hosts);
  room : vec_capacity l.hosts ≡ vec_capacity l.initial.hosts;
}

abbrev pub decreases-loop-worker : goal.decreases-loop-worker
decreases-loop-worker g l = vec_len l.workers
