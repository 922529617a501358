use Rattle.std.proofs.Common.{◌≡◌, ◌<◌, true, false, None, unwrap_or, arith, length, ap, sym, ◌∙◌}
use Rattle.raid_base.specs.declared.jobs.Cause.TheVariants as causes
use Rattle.attempts.specs.Taking.{refusal}
use Rattle.raid_base.specs.First.{first_errand}
use Rattle.raid_base.specs.Steps.{behind, settled}
use Rattle.attempts.specs.Recovery.{stays, recover_refused}
use Rattle.stripe_recovery.specs.declared.stages.RecoverStage.TheVariants.{Confirming}
use Rattle.stripe_recovery.specs.Stages.{is_kept}
use Rattle.stripe_recovery.specs.Left.{left_of}
use Rattle.stripe_recovery.specs.Tries.{left}
use Rattle.stripe_recovery.proofs.RecoverLemmas.{stands, draws-left, one-confirm, settled-confirm, confirm-refused}
use Rattle.stripe_recovery.proofs.recover_try.RecoverTry.take_confirm.Goals as goal

pub returns-then-stays-clause-told : goal.returns-then-stays-clause-told
returns-then-stays-clause-told c =
    let t = c.args.self.now in
    let r = c.args.reply.now in
    let host = c.args.numbers.now.host in
    let seen = c.args.numbers.now.seen in
    let kept : is_kept Confirming (length t.queue) t.taken ≡ true = sym (ap (λ s. is_kept s (length t.queue) t.taken) c.requires) ∙ t.kept in
    let same : stays t.taken (first_errand t.queue).bay r ≡ true = cc in
    settled-confirm host seen c.draw-number.new.self.seen t.job t.taken t.queue r c.draw-number.result (left c.take_number.new.self)
    (one-confirm t.taken t.queue kept) same c.draw-number.ensures.value (ap (λ n. n.seen) c.draw-number.ensures.new) c.take_number.ensures
    ∙ ap (λ s. settled host seen (behind (left_of s t.job t.taken t.queue) r)) (sym c.requires)

pub returns-else-stays-clause-told : goal.returns-else-stays-clause-told
returns-else-stays-clause-told c =
    let t = c.args.self.now in
    let now = c.refuse.new.self in
    let r = c.args.reply.now in
    let kept : is_kept Confirming (length t.queue) t.taken ≡ true = sym (ap (λ s. is_kept s (length t.queue) t.taken) c.requires) ∙ t.kept in
    let some : 0 < length t.queue = omega (arith, one-confirm t.taken t.queue kept) in
    let other : stays t.taken (first_errand t.queue).bay r ≡ false = cc in
    let is : c.confirm_cause-cause.result ≡ unwrap_or (refusal None t.taken.missing (first_errand t.queue).bay r) (causes.Changed t.job.row) = cc in
    stands c.args.numbers.now.host c.args.numbers.now.seen (behind (left t) r) (left now)
    (confirm-refused t.job t.taken t.queue r (left now) some other (c.refuse.ensures ∙ ap (recover_refused t.job t.taken.row) is)
    ∙ ap (λ s. behind (left_of s t.job t.taken t.queue) r) (sym c.requires))
    (draws-left now.stage now.job now.taken now.queue now.kept)
