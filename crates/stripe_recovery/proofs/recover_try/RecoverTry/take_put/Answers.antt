use Rattle.std.proofs.Common.{◌≡◌, true, length, ap, sym, ◌∙◌}
use Rattle.raid_base.specs.Replies.{is_done}
use Rattle.raid_base.specs.Steps.{behind}
use Rattle.attempts.specs.Recovery.{give_back, granted_data}
use Rattle.stripe_recovery.specs.declared.stages.RecoverStage.TheVariants.{Putting}
use Rattle.stripe_recovery.specs.Stages.{is_kept}
use Rattle.stripe_recovery.specs.Left.{left_of}
use Rattle.stripe_recovery.proofs.RecoverLemmas.{one-put, put-done}
use Rattle.stripe_recovery.proofs.recover_try.RecoverTry.take_put.Goals as goal

pub returns-then-is_done : goal.returns-then-is_done
returns-then-is_done c =
    let t = c.args.self.now in
    let r = c.args.reply.now in
    let n = c.args.number in
    let lost = c.args.lost in
    let kept : is_kept (Putting n lost) (length t.queue) t.taken ≡ true = sym (ap (λ s. is_kept s (length t.queue) t.taken) c.requires) ∙ t.kept in
    let done : is_done r ≡ true = cc in
    put-done t.job t.taken n lost t.queue c.closing_queue-self.result r (one-put n lost t.taken t.queue kept) done
    (c.closing_queue-self.ensures ∙ ap (λ row. give_back t.job (granted_data t.job row)) c.row.ensures)
    ∙ ap (λ s. behind (left_of s t.job t.taken t.queue) r) (sym c.requires)
