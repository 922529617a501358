use Rattle.std.proofs.Common.{Some, ap, ◌∙◌}
use Rattle.stripe_recovery.proofs.RecoverLemmas.{has-errand, quits-left}
use Rattle.stripe_recovery.proofs.recover_try.RecoverTry.quit.Goals as goal

pub returns : goal.returns
returns c =
    let t = c.args.self.now in
    ap (λ e. Some e) c.quit_end.ensures ∙ quits-left t.stage t.job t.taken t.queue (has-errand t.stage t.job t.taken t.queue t.kept c.requires)
