use Rattle.std.proofs.Common.{sym, ◌∙◌, subst}
use Rattle.host_engine.specs.Left.{contents_kept}
use Rattle.host_engine.specs.Stands.{Stands}
use Rattle.histories.specs.Progress.{Progress, next_job, with_ending}
use Rattle.host_engine.proofs.HostLemmas.{ended-on, ended-over, stopped-stands}
use Rattle.host_engine.proofs.host.Host.close.Goals as goal

pub returns-then-not-stops-clause-stands : goal.returns-then-not-stops-clause-stands
returns-then-not-stops-clause-stands c = λ script host p h.
    subst (λ (q : Progress). Stands script host c.start.new.self q)
    (sym (ended-on script host p c.args.end (contents_kept c.args.kept c.args.self.now.attempt) (sym (c.stops-stops.ensures script host p h) ∙ c.if-not-stops.true)))
    (c.start.ensures.stands script host (next_job (with_ending p c.args.end (contents_kept c.args.kept c.args.self.now.attempt))) (c.finish_job.ensures.counts script host p h))

pub returns-else-not-stops-clause-stands : goal.returns-else-not-stops-clause-stands
returns-else-not-stops-clause-stands c = λ script host p h.
    subst (λ (q : Progress). Stands script host c.finish_job.new.self q)
    (sym (ended-over script host p c.args.end (contents_kept c.args.kept c.args.self.now.attempt) (sym (c.stops-stops.ensures script host p h) ∙ c.if-not-stops.false)))
    (stopped-stands script host c.finish_job.new.self (next_job (with_ending p c.args.end (contents_kept c.args.kept c.args.self.now.attempt))) (c.finish_job.ensures.counts script host p h) (c.finish_job.ensures.job.2 ∙ c.requires.idle))
