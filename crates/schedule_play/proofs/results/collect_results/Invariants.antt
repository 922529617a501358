use Rattle.std.proofs.Common.{◌≡◌, ◌++◌, ◌≤◌, take}
use Rattle.std.specs.Prelude.{flat_map}
use Rattle.std.specs.Vec.{vec_capacity}
use Rattle.host_engine.specs.declared.host.Host.{Host as HostView}
use Rattle.schedule_play.proofs.results.collect_results.Given as goal

abbrev pub invariant-loop-host : goal.invariant-loop-host
invariant-loop-host l = record {
  items : l.results.items ≡ l.fn.results.items ++ flat_map (λ (host : HostView). host.results.items) (take l.host-index l.hosts);
  room : vec_capacity l.fn.results ≤ vec_capacity l.results;
}
