use Rattle.std.proofs.Common.{◌≡◌, ◌≤◌, ◌<◌, ◌+◌, ℕ, List, [], ◌∷◌, ◌++◌, length, length-append, sym, ap, subst, ◌∙◌, arith}
use Rattle.std.specs.List.{AllByRecursion}
use Rattle.raid_base.specs.declared.messages.Entry.{Entry}
use Rattle.clock_merge.specs.Merge.{ClocksRise, ClocksRiseFrom}
use Rattle.clock_merge.proofs.tests.journal.Goals as goal

-- an entry behind all of these, with a clock above theirs
rises-from : (first : Entry) (es : List Entry) (entry : Entry) (last : ℕ) → ClocksRiseFrom first es → first.clock ≤ last → AllByRecursion (λ (e : Entry). e.clock ≤ last) es → last < entry.clock →
    ClocksRiseFrom first (es ++ entry ∷ [])
rises-from first [] entry last rises below all above = (omega (arith, below, above), tt)
rises-from first (e ∷ es) entry last rises below all above = (rises.0, rises-from e es entry last rises.1 all.0 all.1 above)

rises-on : (es : List Entry) (entry : Entry) (last : ℕ) → ClocksRise es → AllByRecursion (λ (e : Entry). e.clock ≤ last) es → last < entry.clock → ClocksRise (es ++ entry ∷ [])
rises-on [] entry last rises all above = tt
rises-on (e ∷ es) entry last rises all above = rises-from e es entry last rises all.0 all.1 above

below-on : (es : List Entry) (entry : Entry) (last next : ℕ) → AllByRecursion (λ (e : Entry). e.clock ≤ last) es → last < next → entry.clock ≡ next →
    AllByRecursion (λ (e : Entry). e.clock ≤ next) (es ++ entry ∷ [])
below-on [] entry last next all above same = (omega (arith, same), tt)
below-on (e ∷ es) entry last next all above same = let first = all.0 in (omega (arith, first, above), below-on es entry last next all.1 above same)

both-on : (es items : List Entry) (entry : Entry) (last next : ℕ) → items ≡ es ++ entry ∷ [] → ClocksRise es → AllByRecursion (λ (e : Entry). e.clock ≤ last) es → last < next →
    entry.clock ≡ next → ClocksRise items × AllByRecursion (λ (e : Entry). e.clock ≤ next) items
both-on es items entry last next is rises all above same = (
  subst (λ (l : List Entry). ClocksRise l) (sym is) (rises-on es entry last rises all (omega (arith, above, same))),
  subst (λ (l : List Entry). AllByRecursion (λ (e : Entry). e.clock ≤ next) l) (sym is) (below-on es entry last next all above same),
)

pub loop-next-preserved : goal.loop-next-preserved
loop-next-preserved c =
    let stands = c.loop-next.invariant in
    let both = both-on c.loop-next.journal.items c.push.new.self.items c.entry.result c.loop-next.last _ c.in_ok-push.ensures.items stands.rises stands.below c.if-next-last.false c.entry.ensures in
    record {
      rises = both.0;
      below = both.1;
      long = ap (λ (l : List Entry). length l) c.in_ok-push.ensures.items ∙ length-append c.loop-next.journal.items (c.entry.result ∷ []) ∙ ap (λ (n : ℕ). n + 1) stands.long;
    }
