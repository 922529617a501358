use Rattle.std.proofs.Common.{◌≡◌, length, refl, ap, sym, ◌∙◌, option_map, IsSome, slice_get, subst, arith}
use Rattle.raid_base.specs.declared.messages.Errand.{Errand}
use Rattle.stripe_recovery.proofs.RecoverLemmas.{next-left, asks-left, has-errand, some-first, none-first}
use Rattle.stripe_recovery.proofs.recover_try.RecoverTry.next.Goals as goal

pub returns-in-Some-clause-value : goal.returns-in-Some-clause-value
returns-in-Some-clause-value c =
    let t = c.args.self.now in
    ap (option_map (λ (e : Errand). (e.bay, e.request))) (sym c.in-Some.is ∙ c.first.ensures ∙ sym (next-left t.stage t.job t.taken t.queue t.kept))

pub returns-in-Some-clause-ended : goal.returns-in-Some-clause-ended
returns-in-Some-clause-ended c =
    let t = c.args.self.now in
    let some : IsSome (slice_get t.queue 0) = subst (λ o. IsSome o) (sym c.in-Some.is ∙ c.first.ensures) refl in
    (λ _. asks-left t.stage t.job t.taken t.queue (some-first t.queue some), λ _. refl)

pub returns-in-None-clause-value : goal.returns-in-None-clause-value
returns-in-None-clause-value c =
    let t = c.args.self.now in
    ap (option_map (λ (e : Errand). (e.bay, e.request))) (sym c.in-None.is ∙ c.first.ensures ∙ sym (next-left t.stage t.job t.taken t.queue t.kept))

pub returns-in-None-clause-ended : goal.returns-in-None-clause-ended
returns-in-None-clause-ended c =
    let t = c.args.self.now in
    let none : length t.queue ≡ 0 = none-first t.queue (sym c.first.ensures ∙ c.in-None.is) in
    (λ h. cc, λ h. absurd (omega (arith, none, has-errand t.stage t.job t.taken t.queue t.kept h)))
