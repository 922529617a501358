use Rattle.std.proofs.Common.{◌++◌, ◌∙◌, List, map, reverse, ap}
use Rattle.std.specs.Vec.{vec_capacity}
use Rattle.host_engine.specs.declared.host.Host.{Host}
use Rattle.host_workers.specs.Passing.{host_in}
use Rattle.host_workers.proofs.Backs.{all-back, played}
use Rattle.host_workers.proofs.playing.play_hosts.Goals as goal

pub take_passes-requires-clause-back : goal.take_passes-requires-clause-back
take_passes-requires-clause-back g c =
    all-back c.args.script.now c.args.rack c.args.hosts.now.items c.args.first c.give_passes-workers.new.first c.give_passes-workers.new.first (vec_capacity c.args.workers)
    c.give_passes-workers.result.items c.run_all-workers.result.items c.requires.may c.give_passes-workers.ensures.given c.run_all-workers.ensures.count
    (c.run_all-workers.ensures.run c.args.script.now)

pub returns : goal.returns
returns g c =
    played c.args.script.now c.args.rack c.args.hosts.now.items c.args.first c.give_passes-workers.new.first c.take_passes.new.first (vec_capacity c.args.workers)
    c.give_passes-workers.result.items c.run_all-workers.result.items c.requires.may c.give_passes-workers.ensures.given c.run_all-workers.ensures.count
    (c.run_all-workers.ensures.run c.args.script.now) c.take_passes.ensures.first c.take_passes.new.hosts.items c.close.result.items
    (c.take_passes.ensures.hosts
    ∙ ap (λ (hosts : List Host). hosts ++ map host_in (reverse c.run_all-workers.result.items)) c.give_passes-workers.ensures.none_left)
    c.close.ensures.bays
