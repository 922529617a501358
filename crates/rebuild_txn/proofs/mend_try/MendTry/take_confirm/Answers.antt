use Rattle.std.proofs.Common.{◌≡◌, true, length, ap, sym, ◌∙◌}
use Rattle.raid_base.specs.Steps.{behind, settled}
use Rattle.raid_base.specs.Replies.{is_held}
use Rattle.rebuild_txn.specs.declared.stages.MendStage.TheVariants.{Confirming}
use Rattle.rebuild_txn.specs.Stages.{is_kept}
use Rattle.rebuild_txn.specs.Left.{left_of}
use Rattle.rebuild_txn.specs.Tries.{left}
use Rattle.rebuild_txn.proofs.MendLemmas.{one-confirm, settled-confirm}
use Rattle.rebuild_txn.proofs.mend_try.MendTry.take_confirm.Goals as goal

pub returns-then-is_held-clause-told : goal.returns-then-is_held-clause-told
returns-then-is_held-clause-told c =
    let t = c.args.self.now in
    let r = c.args.reply.now in
    let held = length t.holds.items in
    let kept : is_kept Confirming (length t.queue) held ≡ true = sym (ap (λ s. is_kept s (length t.queue) held) c.requires) ∙ t.kept in
    let is : is_held r ≡ true = cc in
    settled-confirm c.args.numbers.now.host c.args.numbers.now.seen c.draw-number.new.self.seen t.job t.holds.items t.queue r c.draw-number.result (left c.take_number.new.self)
    (one-confirm t.queue held kept) is c.draw-number.ensures.value (ap (λ n. n.seen) c.draw-number.ensures.new) c.take_number.ensures
    ∙ ap (λ s. settled c.args.numbers.now.host c.args.numbers.now.seen (behind (left_of s t.job t.holds.items t.queue) r)) (sym c.requires)
