use Rattle.std.proofs.Common.{sym, subst}
use Rattle.raid_base.specs.declared.jobs.Ended.{Ended}
use Rattle.host_engine.specs.declared.attempt.Kept.TheVariants.{Contents}
use Rattle.host_engine.specs.Left.{contents_kept}
use Rattle.host_engine.specs.Stands.{Stands}
use Rattle.histories.specs.Progress.{attempt_ended}
use Rattle.host_engine.proofs.host.Host.finish.Goals as goal

pub returns-in-Read-clause-stands : goal.returns-in-Read-clause-stands
returns-in-Read-clause-stands c = λ script host p h.
    subst (λ (e : Ended). Stands script host c.close.new.self (attempt_ended script host p (contents_kept Contents c.args.self.now.attempt) e)) (sym c.in-Read.is) (c.close.ensures.stands script host p h)

pub returns-in-Wrote-clause-stands : goal.returns-in-Wrote-clause-stands
returns-in-Wrote-clause-stands c = λ script host p h.
    subst (λ (e : Ended). Stands script host c.close-in-Wrote.new.self (attempt_ended script host p (contents_kept Contents c.args.self.now.attempt) e)) (sym c.in-Wrote.is) (c.close-in-Wrote.ensures.stands script host p h)

pub returns-in-Part-clause-stands : goal.returns-in-Part-clause-stands
returns-in-Part-clause-stands c = λ script host p h.
    subst (λ (e : Ended). Stands script host c.close-in-Part.new.self (attempt_ended script host p (contents_kept Contents c.args.self.now.attempt) e)) (sym c.in-Part.is) (c.close-in-Part.ensures.stands script host p h)

pub returns-in-Recovered-clause-stands : goal.returns-in-Recovered-clause-stands
returns-in-Recovered-clause-stands c = λ script host p h.
    subst (λ (e : Ended). Stands script host c.close-in-Recovered.new.self (attempt_ended script host p (contents_kept Contents c.args.self.now.attempt) e)) (sym c.in-Recovered.is) (c.close-in-Recovered.ensures.stands script host p h)

pub returns-in-Mended-clause-stands : goal.returns-in-Mended-clause-stands
returns-in-Mended-clause-stands c = λ script host p h.
    subst (λ (e : Ended). Stands script host c.mended.new.self (attempt_ended script host p (contents_kept Contents c.args.self.now.attempt) e)) (sym c.in-Mended.is) (c.mended.ensures.stands script host p h)

pub returns-in-Refused-clause-stands : goal.returns-in-Refused-clause-stands
returns-in-Refused-clause-stands c = λ script host p h.
    subst (λ (e : Ended). Stands script host c.refused.new.self (attempt_ended script host p (contents_kept Contents c.args.self.now.attempt) e)) (sym c.in-Refused.is) (c.refused.ensures.stands script host p h)
