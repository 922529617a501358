use Rattle.std.proofs.Common.{length, ap, sym, ◌∙◌}
use Rattle.raid_base.specs.Steps.{behind, draws, settled}
use Rattle.rebuild_txn.specs.Left.{left_of}
use Rattle.rebuild_txn.specs.Tries.{left}
use Rattle.rebuild_txn.proofs.MendLemmas.{stands, draws-left, draws-released, has-errand, released-left}
use Rattle.rebuild_txn.proofs.mend_try.MendTry.take.Goals as goal

pub returns-in-Claiming-clause-told : goal.returns-in-Claiming-clause-told
returns-in-Claiming-clause-told c =
    let t = c.args.self.now in
    let now = c.take_claim.new.self in
    let r = c.args.reply.now in
    stands c.args.numbers.now.host c.hear.new.self.seen (behind (left t) r) (left now) c.take_claim.ensures
    (draws-left now.stage now.job now.holds.items now.queue (length now.holds.items) now.kept)
    ∙ ap (λ n. settled c.args.numbers.now.host n.seen (behind (left t) r)) c.hear.ensures

pub returns-in-Putting-clause-told : goal.returns-in-Putting-clause-told
returns-in-Putting-clause-told c =
    let t = c.args.self.now in
    let now = c.take_put.new.self in
    let r = c.args.reply.now in
    stands c.args.numbers.now.host c.hear.new.self.seen (behind (left t) r) (left now) c.take_put.ensures
    (draws-left now.stage now.job now.holds.items now.queue (length now.holds.items) now.kept)
    ∙ ap (λ n. settled c.args.numbers.now.host n.seen (behind (left t) r)) c.hear.ensures

pub returns-in-Releasing-clause-told : goal.returns-in-Releasing-clause-told
returns-in-Releasing-clause-told c =
    let t = c.args.self.now in
    let q = c.advance.new.self in
    let r = c.args.reply.now in
    let why = c.in-Releasing.why in
    stands c.args.numbers.now.host c.hear.new.self.seen (behind (left t) r) (left_of t.stage t.job t.holds.items q)
    (ap (λ s. left_of s t.job t.holds.items q) c.in-Releasing.is
    ∙ released-left t.job t.holds.items why t.queue q r (has-errand t.stage t.job t.holds.items t.queue (length t.holds.items) t.kept c.requires) c.advance.ensures
    ∙ ap (λ s. behind (left_of s t.job t.holds.items t.queue) r) (sym c.in-Releasing.is))
    (ap (λ s. draws (left_of s t.job t.holds.items q)) c.in-Releasing.is ∙ draws-released q why)
    ∙ ap (λ n. settled c.args.numbers.now.host n.seen (behind (left t) r)) c.hear.ensures
