use Rattle.histories.proofs.bounds.ScriptLemmas.{jobs-aimed, jobs-sized, jobs-held}
use Rattle.host_workers.proofs.TestLemmas.{starts}
use Rattle.host_workers.proofs.tests.new_worker.Goals as goal

pub make-requires-clause-aimed : goal.make-requires-clause-aimed
make-requires-clause-aimed c = jobs-aimed c.args.script.now c.requires.script.0 c.args.host

pub make-requires-clause-sized : goal.make-requires-clause-sized
make-requires-clause-sized c = jobs-sized c.args.script.now c.requires.script.0 c.args.host

pub make-requires-clause-held : goal.make-requires-clause-held
make-requires-clause-held c = jobs-held c.args.script.now c.requires.script.0 c.args.host

pub returns-clause-start : goal.returns-clause-start
returns-clause-start c =
    starts c.args.script.now c.args.rack.now c.args.host c.quota-most.result c.in_ok-runs.runs c.args.first.now c.split-pass.result c.requires.script.0 c.in_ok-runs.ensures
    c.quota-most.ensures c.split-pass.ensures.guest.0 c.split-pass.ensures.guest.1
