use Rattle.std.proofs.Common.{◌≡◌, true, length, ap, sym, ◌∙◌}
use Rattle.raid_base.specs.declared.jobs.Ended.TheVariants.{Mended}
use Rattle.raid_base.specs.Replies.{is_done}
use Rattle.raid_base.specs.Steps.{behind}
use Rattle.attempts.specs.Mending.{mend_releases, without_target}
use Rattle.rebuild_txn.specs.declared.stages.MendStage.TheVariants.{Putting, Releasing}
use Rattle.rebuild_txn.specs.Stages.{is_kept}
use Rattle.rebuild_txn.specs.Left.{left_of}
use Rattle.rebuild_txn.proofs.MendLemmas.{one-put, put-done}
use Rattle.rebuild_txn.proofs.mend_try.MendTry.take_put.Goals as goal

pub returns-then-is_done : goal.returns-then-is_done
returns-then-is_done c =
    let t = c.args.self.now in
    let r = c.args.reply.now in
    let held = length t.holds.items in
    let kept : is_kept Putting (length t.queue) held ≡ true = sym (ap (λ s. is_kept s (length t.queue) held) c.requires) ∙ t.kept in
    let done : is_done r ≡ true = cc in
    ap (left_of (Releasing Mended) t.job t.holds.items) (c.last_queue-self.ensures ∙ ap (λ hs. mend_releases t.job (without_target t.job hs)) c.as_slice.ensures.value)
    ∙ sym (put-done t.job t.holds.items t.queue r (one-put t.queue held kept) done)
    ∙ ap (λ s. behind (left_of s t.job t.holds.items t.queue) r) (sym c.requires)
