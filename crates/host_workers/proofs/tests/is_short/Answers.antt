use Rattle.std.proofs.Common.{arith}
use Rattle.host_workers.proofs.TestLemmas.{short-script}
use Rattle.host_workers.proofs.tests.is_short.Goals as goal

pub returns : goal.returns
returns c is =
    short-script c.args.script.now c.hosts-hosts.result.now c.loop-host.host-index c.hosts-hosts.ensures c.loop-host.invariant (omega (arith, c.loop-host-test.false)) (omega (arith, c.if-hosts-gt16.false))
