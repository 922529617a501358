use Rattle.std.proofs.Common.{◌≡◌, ◌++◌, ◌≤◌, take}
use Rattle.std.specs.Prelude.{flat_map}
use Rattle.std.specs.Vec.{vec_capacity}
use Rattle.host_engine.specs.declared.host.Host.{Host as HostView}
use Rattle.schedule_play.proofs.results.collect_contents.Given as goal

abbrev pub invariant-loop-host : goal.invariant-loop-host
invariant-loop-host l = record {
  items : l.contents.items ≡ l.fn.contents.items ++ flat_map (λ (host : HostView). host.contents.items) (take l.host-index l.hosts);
  room : vec_capacity l.fn.contents ≤ vec_capacity l.contents;
}
