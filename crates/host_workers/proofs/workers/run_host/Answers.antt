use Rattle.host_workers.proofs.RunLemmas.{come-start, come-may, come-more, come-smaller, come-ended}
use Rattle.host_workers.proofs.workers.run_host.Goals as goal

pub loop-init : goal.loop-init
loop-init g c = come-start c.args.rack.now c.args.worker.now

pub turn-requires-clause-ready : goal.turn-requires-clause-ready
turn-requires-clause-ready g c = come-may c.args.rack.now c.args.worker.now c.loop.worker c.requires c.loop.invariant

pub loop-smaller : goal.loop-smaller
loop-smaller g c =
    come-smaller c.args.rack.now c.args.worker.now c.loop.worker c.turn.new.worker c.requires c.loop.invariant c.turn.result c.turn.ensures c.loop-test.true

pub loop-preserved : goal.loop-preserved
loop-preserved g c =
    come-more c.args.rack.now c.args.worker.now c.loop.worker c.turn.new.worker c.loop.invariant c.turn.result c.turn.ensures c.loop-test.true

pub returns : goal.returns
returns g c = come-ended c.args.rack.now c.args.worker.now c.loop.worker c.turn.new.worker c.loop.invariant c.turn.result c.turn.ensures c.loop-test.false
