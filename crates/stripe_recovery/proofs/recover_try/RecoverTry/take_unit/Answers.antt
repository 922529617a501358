use Rattle.std.proofs.Common.{◌≡◌, ◌<◌, true, None, length, ap, sym, ◌∙◌, arith}
use Rattle.raid_base.specs.First.{first_errand}
use Rattle.raid_base.specs.Replies.{grant_of}
use Rattle.raid_base.specs.Steps.{behind}
use Rattle.attempts.specs.Taking.{refusal, with_grant, with_wanted}
use Rattle.stripe_recovery.specs.declared.stages.RecoverStage.TheVariants.{Units, Confirming}
use Rattle.stripe_recovery.specs.Stages.{is_kept}
use Rattle.stripe_recovery.specs.Left.{left_of}
use Rattle.stripe_recovery.proofs.RecoverLemmas.{some-units, unit-last}
use Rattle.stripe_recovery.proofs.recover_try.RecoverTry.take_unit.Goals as goal

pub returns-else-len-gt1 : goal.returns-else-len-gt1
returns-else-len-gt1 c =
    let t = c.args.self.now in
    let r = c.args.reply.now in
    let t' = c.keep_wanted.new.self in
    let kept : is_kept Units (length t.queue) t.taken ≡ true = sym (ap (λ s. is_kept s (length t.queue) t.taken) c.requires) ∙ t.kept in
    let some : 0 < length t.queue = some-units t.taken t.queue kept in
    let one : length t.queue ≡ 1 = omega (arith, some) in
    let why : refusal None t.taken.missing (first_errand t.queue).bay r ≡ None = cc in
    let keeps : t' ≡ with_grant with_wanted t.taken (first_errand t.queue).bay (grant_of r) = cc in
    unit-last t.job t.taken t' t.queue r (left_of Confirming t.job t' c.confirm_queue-self.result) one why keeps
    (ap (left_of Confirming t.job t') c.confirm_queue-self.ensures)
    ∙ ap (λ s. behind (left_of s t.job t.taken t.queue) r) (sym c.requires)
