use Rattle.std.proofs.Common.{◌≡◌, ◌<◌, true, Some, length, ap, sym, ◌∙◌, arith}
use Rattle.raid_base.specs.First.{first_errand}
use Rattle.raid_base.specs.Steps.{behind, Through}
use Rattle.attempts.specs.Mending.{hold_of, mend_claimed}
use Rattle.rebuild_txn.specs.declared.stages.MendStage.TheVariants.{Claiming, Confirming}
use Rattle.rebuild_txn.specs.Stages.{is_kept}
use Rattle.rebuild_txn.specs.Left.{left_of}
use Rattle.rebuild_txn.proofs.MendLemmas.{some-claims, claim-last}
use Rattle.rebuild_txn.proofs.mend_try.MendTry.take_claim.Goals as goal

pub returns-else-len-gt1 : goal.returns-else-len-gt1
returns-else-len-gt1 c =
    let t = c.args.self.now in
    let r = c.args.reply.now in
    let held = length t.holds.items in
    let kept : is_kept Claiming (length t.queue) held ≡ true = sym (ap (λ s. is_kept s (length t.queue) held) c.requires) ∙ t.kept in
    let some : 0 < length t.queue = some-claims t.queue held kept in
    let one : length t.queue ≡ 1 = omega (arith, some) in
    let why : hold_of t.job (first_errand t.queue).bay r ≡ Some c.in-Some.hold = cc in
    ap (left_of Confirming t.job c.push.new.self.items) c.confirm_queue-self.ensures
    ∙ ap (λ hs. mend_claimed t.job (Through hs)) c.push.ensures.items
    ∙ sym (claim-last t.job t.holds.items t.queue r c.in-Some.hold one why)
    ∙ ap (λ s. behind (left_of s t.job t.holds.items t.queue) r) (sym c.requires)
