use Rattle.std.proofs.Common.{refl, sym, ◌∙◌, subst}
use Rattle.host_engine.specs.Left.{contents_kept}
use Rattle.histories.specs.Progress.{Progress}
use Rattle.host_engine.specs.Stands.{Stands}
use Rattle.host_engine.specs.declared.attempt.Kept.TheVariants.{Contents}
use Rattle.host_engine.proofs.AttemptLemmas.{same-contents}
use Rattle.host_engine.proofs.HostLemmas.{counts-idle}
use Rattle.host_engine.proofs.TakeLemmas.{advances, ends-as, stands-on, stands-quit, end-within, end-needs, open-asking, open-ends}
use Rattle.host_engine.proofs.host.Host.tell.Goals as goal

pub finish-requires-clause-room : goal.finish-requires-clause-room
finish-requires-clause-room c =
    end-within c.args.self.now c.hear.new.self c.args.reply.now c.requires.ready c.hear.result c.in-Some.ended (contents_kept Contents c.hear.new.self.attempt) c.hear.ensures.told c.in-Some.is
    (same-contents c.hear.new.self.attempt)

pub finish-requires-clause-tried : goal.finish-requires-clause-tried
finish-requires-clause-tried c = (end-needs c.args.self.now c.hear.new.self c.args.reply.now c.requires.ready c.hear.result c.hear.ensures.told).1

pub quit-requires-clause-trying : goal.quit-requires-clause-trying
quit-requires-clause-trying c =
    open-asking c.hear.new.self c.hear.ensures.told.still_in_hand (open-ends c.hear.new.self.attempt c.hear.result c.in-None.is c.hear.ensures.told.ends)

pub returns-in-Some-clause-stands : goal.returns-in-Some-clause-stands
unfolding advances
returns-in-Some-clause-stands c = λ script host p s.
    let a = advances script host c.args.self.now c.hear.new.self p c.args.reply.now c.hear.result s c.hear.ensures.told in
    subst (λ (q : Progress). Stands script host c.finish.new.self q)
    (sym (ends-as script host c.hear.new.self p c.args.reply.now a c.in-Some.ended (contents_kept Contents c.hear.new.self.attempt) (λ blocks. sym c.in-Some.is ∙ c.hear.ensures.told.ends blocks)
    (same-contents c.hear.new.self.attempt)))
    (c.finish.ensures.stands script host a.p2 (counts-idle script host c.hear.new.self _ a.p2 a.counts refl refl refl refl refl refl refl refl refl refl refl refl))

pub returns-then-stops-clause-stands : goal.returns-then-stops-clause-stands
unfolding advances
returns-then-stops-clause-stands c = λ script host p s.
    let a = advances script host c.args.self.now c.hear.new.self p c.args.reply.now c.hear.result s c.hear.ensures.told in
    stands-quit script host c.hear.new.self c.quit.new.self p c.args.reply.now a (sym (c.stops.ensures script host a.p2 a.counts) ∙ c.if-stops.true)
    (open-ends c.hear.new.self.attempt c.hear.result c.in-None.is c.hear.ensures.told.ends) (c.quit.ensures.stands script host a.p2 a.counts)

pub returns-else-stops-clause-stands : goal.returns-else-stops-clause-stands
unfolding advances
returns-else-stops-clause-stands c = λ script host p s.
    let a = advances script host c.args.self.now c.hear.new.self p c.args.reply.now c.hear.result s c.hear.ensures.told in
    stands-on script host c.hear.new.self p c.args.reply.now a (sym (c.stops.ensures script host a.p2 a.counts) ∙ c.if-stops.false)
    (open-ends c.hear.new.self.attempt c.hear.result c.in-None.is c.hear.ensures.told.ends)
