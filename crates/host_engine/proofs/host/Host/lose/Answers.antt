use Rattle.std.proofs.Common.{refl, ◌∙◌}
use Rattle.host_engine.proofs.HostLemmas.{counts-idle, losing-stands, still-missing}
use Rattle.host_engine.proofs.host.Host.lose.Goals as goal

pub returns-in-None-clause-begun : goal.returns-in-None-clause-begun
returns-in-None-clause-begun c = λ script host p h rest.
    losing-stands script host _ p c.args.bay rest (counts-idle script host c.args.self.now _ p h refl refl refl refl refl refl refl refl refl refl refl refl) (h.gone ∙ c.in-None.is) refl

pub returns-in-Some-clause-begun : goal.returns-in-Some-clause-begun
returns-in-Some-clause-begun c = λ script host p h.
    (_, c.finish_job.ensures.counts script host p h, λ rest. still-missing p c.args.bay c.in-Some.gone rest (h.gone ∙ c.in-Some.is))
