use Rattle.std.proofs.Common.{refl, Some}
use Rattle.host_engine.proofs.HostLemmas.{counts-gone}
use Rattle.host_engine.proofs.host.Host.change.Goals as goal

pub returns-clause-stands : goal.returns-clause-stands
returns-clause-stands c = λ script host p h.
    c.close.ensures.stands script host _ (counts-gone script host c.args.self.now _ p (Some c.args.gone) h refl refl refl refl refl refl refl refl refl refl refl refl)
