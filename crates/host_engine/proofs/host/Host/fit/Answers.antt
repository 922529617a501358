use Rattle.std.proofs.Common.{refl, true, false}
use Rattle.host_engine.proofs.HostLemmas.{counts-idle, fitting-stands, not-lost, gone-same}
use Rattle.host_engine.proofs.host.Host.fit.Goals as goal

pub returns-then-is_gone-clause-begun : goal.returns-then-is_gone-clause-begun
returns-then-is_gone-clause-begun c = λ script host p h rest.
    fitting-stands script host _ p c.args.bay rest (counts-idle script host c.args.self.now _ p h refl refl refl refl refl refl refl refl refl refl refl refl)
    (gone-same script host c.args.self.now p c.args.bay false c.is_gone.result true h c.is_gone.ensures c.if-is_gone.true) refl

pub returns-else-is_gone-clause-begun : goal.returns-else-is_gone-clause-begun
returns-else-is_gone-clause-begun c = λ script host p h.
    (_, c.finish_job.ensures.counts script host p h, λ rest. not-lost p c.args.bay rest (gone-same script host c.args.self.now p c.args.bay false c.is_gone.result false h c.is_gone.ensures c.if-is_gone.false))
