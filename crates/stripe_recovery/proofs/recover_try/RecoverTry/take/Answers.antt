use Rattle.std.proofs.Common.{ap, sym, ◌∙◌}
use Rattle.raid_base.specs.Steps.{behind, draws, settled}
use Rattle.stripe_recovery.specs.Left.{left_of}
use Rattle.stripe_recovery.specs.Tries.{left}
use Rattle.stripe_recovery.proofs.RecoverLemmas.{stands, draws-left, draws-released, draws-closing, has-errand, released-left, closed-left}
use Rattle.stripe_recovery.proofs.recover_try.RecoverTry.take.Goals as goal

pub returns-in-Parity-clause-told : goal.returns-in-Parity-clause-told
returns-in-Parity-clause-told c =
    let t = c.args.self.now in
    let now = c.take_parity.new.self in
    let r = c.args.reply.now in
    stands c.args.numbers.now.host c.hear.new.self.seen (behind (left t) r) (left now) c.take_parity.ensures
    (draws-left now.stage now.job now.taken now.queue now.kept)
    ∙ ap (λ n. settled c.args.numbers.now.host n.seen (behind (left t) r)) c.hear.ensures

pub returns-in-Units-clause-told : goal.returns-in-Units-clause-told
returns-in-Units-clause-told c =
    let t = c.args.self.now in
    let now = c.take_unit.new.self in
    let r = c.args.reply.now in
    stands c.args.numbers.now.host c.hear.new.self.seen (behind (left t) r) (left now) c.take_unit.ensures
    (draws-left now.stage now.job now.taken now.queue now.kept)
    ∙ ap (λ n. settled c.args.numbers.now.host n.seen (behind (left t) r)) c.hear.ensures

pub returns-in-Putting-clause-told : goal.returns-in-Putting-clause-told
returns-in-Putting-clause-told c =
    let t = c.args.self.now in
    let now = c.take_put.new.self in
    let r = c.args.reply.now in
    stands c.args.numbers.now.host c.hear.new.self.seen (behind (left t) r) (left now) c.take_put.ensures
    (draws-left now.stage now.job now.taken now.queue now.kept)
    ∙ ap (λ n. settled c.args.numbers.now.host n.seen (behind (left t) r)) c.hear.ensures

pub returns-in-Closing-clause-told : goal.returns-in-Closing-clause-told
returns-in-Closing-clause-told c =
    let t = c.args.self.now in
    let q = c.advance.new.self in
    let r = c.args.reply.now in
    stands c.args.numbers.now.host c.hear.new.self.seen (behind (left t) r) (left_of t.stage t.job t.taken q)
    (ap (λ s. left_of s t.job t.taken q) c.in-Closing.is
    ∙ closed-left t.job t.taken c.in-Closing.number c.in-Closing.lost t.queue q r (has-errand t.stage t.job t.taken t.queue t.kept c.requires) c.advance.ensures
    ∙ ap (λ s. behind (left_of s t.job t.taken t.queue) r) (sym c.in-Closing.is))
    (ap (λ s. draws (left_of s t.job t.taken q)) c.in-Closing.is ∙ draws-closing c.in-Closing.number c.in-Closing.lost q _)
    ∙ ap (λ n. settled c.args.numbers.now.host n.seen (behind (left t) r)) c.hear.ensures

pub returns-in-Releasing-clause-told : goal.returns-in-Releasing-clause-told
returns-in-Releasing-clause-told c =
    let t = c.args.self.now in
    let q = c.advance-in-Releasing.new.self in
    let r = c.args.reply.now in
    stands c.args.numbers.now.host c.hear.new.self.seen (behind (left t) r) (left_of t.stage t.job t.taken q)
    (ap (λ s. left_of s t.job t.taken q) c.in-Releasing.is
    ∙ released-left t.job t.taken c.in-Releasing.why t.queue q r (has-errand t.stage t.job t.taken t.queue t.kept c.requires) c.advance-in-Releasing.ensures
    ∙ ap (λ s. behind (left_of s t.job t.taken t.queue) r) (sym c.in-Releasing.is))
    (ap (λ s. draws (left_of s t.job t.taken q)) c.in-Releasing.is ∙ draws-released q c.in-Releasing.why)
    ∙ ap (λ n. settled c.args.numbers.now.host n.seen (behind (left t) r)) c.hear.ensures
