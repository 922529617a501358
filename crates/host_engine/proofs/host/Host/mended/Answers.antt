use Rattle.std.proofs.Common.{true, false, refl, sym, ◌∙◌, None}
use Rattle.histories.specs.Progress.{next_row}
use Rattle.host_engine.proofs.HostLemmas.{mended-stands, last-is, last-not, counts-gone, counts-row, quit-stands, more-stands}
use Rattle.host_engine.proofs.host.Host.mended.Goals as goal

pub returns-then-self-rows-clause-stands : goal.returns-then-self-rows-clause-stands
returns-then-self-rows-clause-stands c = λ script host p h.
    mended-stands script host p c.close.new.self true (last-is script host c.args.self.now p c.rows-rows.result h c.rows-rows.ensures c.if-self-rows.true)
    (c.close.ensures.stands script host _ (counts-gone script host c.args.self.now _ p None h refl refl refl refl refl refl refl refl refl refl refl refl))

pub returns-then-stops-clause-stands : goal.returns-then-stops-clause-stands
returns-then-stops-clause-stands c = λ script host p h.
    mended-stands script host p c.close-then-stops.new.self false (last-not script host c.args.self.now p c.rows-rows.result h c.rows-rows.ensures c.if-self-rows.false)
    (quit-stands script host p (next_row p) c.close-then-stops.new.self c.args.self.now.tries (sym (c.stops.ensures script host p h) ∙ c.if-stops.true) h.tries (c.close-then-stops.ensures.stands script host p h))

pub returns-else-stops-clause-stands : goal.returns-else-stops-clause-stands
returns-else-stops-clause-stands c = λ script host p h.
    mended-stands script host p c.try_again.new.self false (last-not script host c.args.self.now p c.rows-rows.result h c.rows-rows.ensures c.if-self-rows.false)
    (more-stands script host p (next_row p) c.try_again.new.self (sym (c.stops.ensures script host p h) ∙ c.if-stops.false)
    (c.try_again.ensures.stands script host (next_row p) (counts-row script host c.args.self.now _ p h refl refl refl refl refl refl refl refl refl refl refl refl)))
