use Rattle.histories.proofs.bounds.ScriptLemmas.{jobs-aimed, jobs-sized, jobs-held}
use Rattle.host_engine.proofs.ReadyLemmas.{ready-fresh}
use Rattle.host_plays.proofs.hosts.make_host.Goals as goal

pub make-requires-clause-aimed : goal.make-requires-clause-aimed
make-requires-clause-aimed c = jobs-aimed c.args.script.now c.requires.ranges c.args.no

pub make-requires-clause-sized : goal.make-requires-clause-sized
make-requires-clause-sized c = jobs-sized c.args.script.now c.requires.ranges c.args.no

pub make-requires-clause-held : goal.make-requires-clause-held
make-requires-clause-held c = jobs-held c.args.script.now c.requires.ranges c.args.no

pub returns-in-Ok : goal.returns-in-Ok
returns-in-Ok c = ready-fresh c.args.script.now c.args.no c.in-Ok.host c.requires.ranges c.in-Ok.ensures
