use Rattle.std.proofs.Common.{◌≡◌, ◌+◌, ◌≤◌}
use Rattle.std.specs.Vec.{vec_len, vec_capacity}
use Rattle.host_workers.proofs.Passes.{AreGiving}
use Rattle.host_workers.proofs.playing.give_passes.Given as goal

abbrev pub invariant-loop-host : goal.invariant-loop-host
invariant-loop-host g l = record {
  giving : AreGiving l.script l.rack l.initial.hosts.items l.hosts.items l.first l.workers.items;
  room : vec_capacity l.hosts ≡ vec_capacity l.initial.hosts;
  space : vec_len l.workers + vec_len l.hosts ≤ vec_capacity l.workers;
}

abbrev pub decreases-loop-host : goal.decreases-loop-host
decreases-loop-host g l = vec_len l.hosts
