use Rattle.std.proofs.Common.{◌≡◌, ◌∙◌, ◌<◌, ◌≤◌, ◌-◌, ◌⊎◌, inl, inr, ℕ, Bool, true, false, nat_lt, sym, ap, arith}
use Rattle.std.specs.List.{swap}
use Rattle.std.proofs.lemmas.Bool.Decides.{nat_tests}
use Rattle.slot_rules.specs.declared.opened.Open.{Open}
use Rattle.slot_rules.specs.Tables.{is_open}
use Rattle.slot_rules.proofs.OpenLists.{first-came, first-left, first-stays, value-read}
use Rattle.slot_rules.proofs.open_rows.settle.Goals as goal

pub returns-then-first-place-clause-first : goal.returns-then-first-place-clause-first
returns-then-first-place-clause-first c =
    let swapped : c.swap_indices.new.self.entries ≡ swap c.args.entries.now.entries c.args.place c.args.count =
    c.swap_indices.ensures.entries ∙ ap (λ n. swap c.args.entries.now.entries c.args.place n) c.from-first.ensures in
    first-came c.args.entries.now.entries c.swap_indices.new.self.entries c.args.count c.args.place swapped (omega arith) c.requires.within
    (λ d. ap (λ (o : Open). is_open o) (value-read c.args.entries.now.entries c.args.place c.index.result.now d c.index.ensures) ∙ sym c.is_open-is_open.ensures ∙ c.if-is_open.true) c.requires.first

pub returns-then-place-first-clause-first : goal.returns-then-place-first-clause-first
returns-then-place-first-clause-first c =
    let swapped : c.swap_indices-then-place-first.new.self.entries ≡ swap c.args.entries.now.entries c.args.place (c.args.count - 1) =
    c.swap_indices-then-place-first.ensures.entries ∙ ap (λ n. swap c.args.entries.now.entries c.args.place (n - 1)) c.from-first.ensures in
    first-left c.args.entries.now.entries c.swap_indices-then-place-first.new.self.entries c.args.count c.args.place swapped (omega arith) c.requires.few
    (λ d. ap (λ (o : Open). is_open o) (value-read c.args.entries.now.entries c.args.place c.index.result.now d c.index.ensures) ∙ sym c.is_open-is_open.ensures ∙ c.if-not-is_open.true) c.requires.first

stays_by : (b : Bool) (place first : ℕ) → (b ≡ true × place < first) ⊎ (b ≡ false) → (b ≡ false × first ≤ place) ⊎ (b ≡ true) → b ≡ nat_lt place first
stays_by true place first (inl both) h = grind (arith, nat_tests)
stays_by true place first (inr bad) h = absurd cc
stays_by false place first g (inl both) = grind (arith, nat_tests)
stays_by false place first g (inr bad) = absurd cc

pub returns-else-not-is_open-clause-first : goal.returns-else-not-is_open-clause-first
returns-else-not-is_open-clause-first c =
    first-stays c.args.entries.now.entries c.args.count c.args.place
    (λ d. ap (λ (o : Open). is_open o) (value-read c.args.entries.now.entries c.args.place c.index.result.now d c.index.ensures) ∙ sym c.is_open-is_open.ensures
    ∙ stays_by c.is_open-is_open.result c.args.place c.from-first.result c.else-is_open.either c.else-not-is_open.either ∙ ap (λ n. nat_lt c.args.place n) c.from-first.ensures) c.requires.first
