use Rattle.std.proofs.Common.{length, take, ap, arith, length-append}
use Rattle.std.specs.Prelude.{flat_map}
use Rattle.std.proofs.lemmas.List.Folds.{length-flat_map-take}
use Rattle.host_engine.specs.declared.host.Host.{Host as HostView}
use Rattle.schedule_play.proofs.results.collect_results.Goals as goal

-- the room is enough for what this host adds
pub unreachable-requires : goal.unreachable-requires
unreachable-requires c =
    let told = λ (host : HostView). host.results.items in
    let fits = length-flat_map-take told c.args.hosts.now c.loop-host.host-index c.host-item.result c.loop-host-test.true in
    let so_far = ap length c.loop-host.invariant.items in
    let both = length-append c.args.results.now.items (flat_map told (take c.loop-host.host-index c.args.hosts.now)) in
    let this = ap (λ (host : HostView). length host.results.items) c.host-item.is in
    let given = ap length c.results.ensures in
    omega (arith, fits, so_far, both, this, given, c.loop-host.invariant.room, c.requires.room, c.in-Err.ensures.full, c.loop-host.results.ok.0, c.args.results.now.ok.0)
