use Rattle.std.proofs.Common.{◌≡◌, length, refl, ap, sym, ◌∙◌, option_map, IsSome, slice_get, subst, arith}
use Rattle.raid_base.specs.declared.messages.Errand.{Errand}
use Rattle.attempts.specs.Accesses.{access_of}
use Rattle.host_write.proofs.TryLemmas.{next-left, asks-left, has-errand, some-first, none-first}
use Rattle.host_write.proofs.write_try.WriteTry.next.Goals as goal

pub returns-in-Some-clause-value : goal.returns-in-Some-clause-value
returns-in-Some-clause-value c =
    let w = c.args.self.now in
    ap (option_map (λ (e : Errand). (e.bay, e.request)))
    (sym c.in-Some.is ∙ c.first.ensures ∙ sym (next-left w.stage (access_of w.job c.args.blocks.now) w.taken w.confirmed w.puts w.queue w.job.n w.job.parts.items w.kept w.awake))

pub returns-in-Some-clause-ended : goal.returns-in-Some-clause-ended
returns-in-Some-clause-ended c =
    let w = c.args.self.now in
    let some : IsSome (slice_get w.queue 0) = subst (λ o. IsSome o) (sym c.in-Some.is ∙ c.first.ensures) refl in
    (λ _. asks-left w.stage (access_of w.job c.args.blocks.now) w.taken w.confirmed w.puts w.queue (some-first w.queue some), λ _. refl)

pub returns-in-None-clause-value : goal.returns-in-None-clause-value
returns-in-None-clause-value c =
    let w = c.args.self.now in
    ap (option_map (λ (e : Errand). (e.bay, e.request)))
    (sym c.in-None.is ∙ c.first.ensures ∙ sym (next-left w.stage (access_of w.job c.args.blocks.now) w.taken w.confirmed w.puts w.queue w.job.n w.job.parts.items w.kept w.awake))

pub returns-in-None-clause-ended : goal.returns-in-None-clause-ended
returns-in-None-clause-ended c =
    let w = c.args.self.now in
    let none : length w.queue ≡ 0 = none-first w.queue (sym c.first.ensures ∙ c.in-None.is) in
    (λ h. cc, λ h. absurd (omega (arith, none, has-errand w.stage (access_of w.job c.args.blocks.now) w.taken w.confirmed w.puts w.queue w.job.n w.job.parts.items w.kept w.awake h)))
