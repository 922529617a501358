use Rattle.std.proofs.Common.{sym, ◌∙◌, true, false}
use Rattle.host_engine.proofs.HostLemmas.{test-same, gave-stands, refused-stands, quit-stands, more-stands}
use Rattle.host_engine.proofs.host.Host.refused.Goals as goal

pub returns-then-gives_up-clause-stands : goal.returns-then-gives_up-clause-stands
returns-then-gives_up-clause-stands c = λ script host p h.
    gave-stands script host p c.close.new.self c.args.cause c.args.self.now.tries _
    (test-same script host c.args.self.now p c.args.cause c.tries.result c.gives_up.result true h c.tries.ensures c.gives_up.ensures c.if-gives_up.true) h.tries
    (c.close.ensures.stands script host p h)

pub returns-then-stops-clause-stands : goal.returns-then-stops-clause-stands
returns-then-stops-clause-stands c = λ script host p h.
    refused-stands script host p c.close-then-stops.new.self c.args.cause _
    (test-same script host c.args.self.now p c.args.cause c.tries.result c.gives_up.result false h c.tries.ensures c.gives_up.ensures c.if-gives_up.false)
    (quit-stands script host p p c.close-then-stops.new.self c.args.self.now.tries (sym (c.stops.ensures script host p h) ∙ c.if-stops.true) h.tries (c.close-then-stops.ensures.stands script host p h))

pub returns-else-stops-clause-stands : goal.returns-else-stops-clause-stands
returns-else-stops-clause-stands c = λ script host p h.
    refused-stands script host p c.try_again.new.self c.args.cause _
    (test-same script host c.args.self.now p c.args.cause c.tries.result c.gives_up.result false h c.tries.ensures c.gives_up.ensures c.if-gives_up.false)
    (more-stands script host p p c.try_again.new.self (sym (c.stops.ensures script host p h) ∙ c.if-stops.false) (c.try_again.ensures.stands script host p h))
