use Rattle.std.proofs.Common.{true, false}
use Rattle.host_engine.proofs.HostLemmas.{rebuild-begun, not-fitted, gone-same}
use Rattle.host_engine.proofs.host.Host.rebuild.Goals as goal

pub returns-then-is_gone-clause-begun : goal.returns-then-is_gone-clause-begun
returns-then-is_gone-clause-begun c = λ script host p h first.
    rebuild-begun script host c.args.bay c.try_task.result p c.try_task.new.self (gone-same script host c.args.self.now p c.args.bay true c.is_gone.result true h c.is_gone.ensures c.if-is_gone.true)
    (c.try_task.ensures.begun script host p h first)

pub returns-else-is_gone-clause-begun : goal.returns-else-is_gone-clause-begun
returns-else-is_gone-clause-begun c = λ script host p h first.
    (_, c.finish_job.ensures.counts script host p h, λ rest. not-fitted script host p c.args.bay rest (gone-same script host c.args.self.now p c.args.bay true c.is_gone.result false h c.is_gone.ensures c.if-is_gone.false))
