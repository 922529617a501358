-- Journals have one merge.
use Rattle.std.proofs.Common.{◌≡◌, ℕ, ◌<◌, ◌==◌, Bool, true, false, if◌then◌else◌, List, [], ◌∷◌, length, refl, sym, ap, subst, ◌∙◌}
use Rattle.std.specs.List.{AllByRecursion}
use Rattle.raid_base.specs.declared.numbers.BayNo.{BayNo}
use Rattle.raid_base.specs.declared.messages.Entry.{Entry}
use Rattle.stripe_layout.specs.Placement.{bay}
use Rattle.clock_merge.specs.Merge.{Line, entries_at, RiseFrom, Rise}
use Rattle.clock_merge.specs.Tied.{MergesAreUnique}
use Rattle.clock_merge.proofs.LineLemmas.{same-bay, same-test, other-test, same-heads, same-tails, entries-here, entries-there, never-both, before-first, rise-later}

-- the first lines are one
same-firsts : (x y : Line) (xs ys : List Line) → RiseFrom x xs → RiseFrom y ys → entries_at x.bay (x ∷ xs) ≡ entries_at x.bay (y ∷ ys) →
    entries_at y.bay (x ∷ xs) ≡ entries_at y.bay (y ∷ ys) → x ≡ y
same-firsts x y xs ys rise rises first second = by (x.bay.0 == y.bay.0) refl where
  mine : entries_at x.bay (y ∷ ys) ≡ x.entry ∷ entries_at x.bay xs
  mine = sym first ∙ entries-here x.bay x xs (same-test x.bay.0)

  yours : entries_at y.bay (x ∷ xs) ≡ y.entry ∷ entries_at y.bay ys
  yours = second ∙ entries-here y.bay y ys (same-test y.bay.0)

  by : (b : Bool) → (x.bay.0 == y.bay.0) ≡ b → x ≡ y
  by true e =
      let entry : x.entry ≡ y.entry = same-heads x.entry y.entry (entries_at y.bay xs) (entries_at y.bay ys) (sym (entries-here y.bay x xs e) ∙ yours) in
      ap (λ (at : BayNo). record { bay = at; entry = x.entry }) (same-bay x.bay y.bay e) ∙ ap (λ (entry : Entry). record { bay = y.bay; entry = entry }) entry
  by false e = absurd (never-both x y
      (before-first x y.bay y.entry (entries_at y.bay ys) xs rise (sym (entries-there y.bay x xs e) ∙ yours))
      (before-first y x.bay x.entry (entries_at x.bay xs) ys rises (sym (entries-there x.bay y ys (other-test x.bay.0 y.bay.0 e)) ∙ mine)))

-- without the first line
same-rests : (b : Bool) (entry : Entry) (xs ys : List Entry) → (if b then entry ∷ xs else xs) ≡ (if b then entry ∷ ys else ys) → xs ≡ ys
same-rests true entry xs ys e = same-tails entry entry xs ys e
same-rests false entry xs ys e = e

-- lines that rise and have the same entries at each bay
same-lines : (n : ℕ) (xs ys : List Line) → AllByRecursion (λ (line : Line). line.bay.0 < n) xs → AllByRecursion (λ (line : Line). line.bay.0 < n) ys → Rise xs → Rise ys →
    ((k : ℕ) → k < n → entries_at (bay k) xs ≡ entries_at (bay k) ys) → xs ≡ ys
same-lines n [] [] within withins rise rises same = refl
same-lines n [] (y ∷ ys) within withins rise rises same =
    absurd (let bad : [] ≡ y.entry ∷ entries_at y.bay ys = same y.bay.0 withins.0 ∙ entries-here y.bay y ys (same-test y.bay.0) in cc)
same-lines n (x ∷ xs) [] within withins rise rises same =
    absurd (let bad : x.entry ∷ entries_at x.bay xs ≡ [] = sym (entries-here x.bay x xs (same-test x.bay.0)) ∙ same x.bay.0 within.0 in cc)
same-lines n (x ∷ xs) (y ∷ ys) within withins rise rises same =
    let first : x ≡ y = same-firsts x y xs ys rise rises (same x.bay.0 within.0) (same y.bay.0 withins.0) in
    let again : (k : ℕ) → k < n → entries_at (bay k) (x ∷ xs) ≡ entries_at (bay k) (x ∷ ys) =
    λ k below. subst (λ (z : Line). entries_at (bay k) (x ∷ xs) ≡ entries_at (bay k) (z ∷ ys)) (sym first) (same k below) in
    let rest : xs ≡ ys = same-lines n xs ys within.1 withins.1 (rise-later x xs rise) (rise-later y ys rises)
    (λ k below. same-rests (x.bay.0 == k) x.entry (entries_at (bay k) xs) (entries_at (bay k) ys) (again k below)) in
    ap (λ (z : Line). z ∷ xs) first ∙ ap (λ (zs : List Line). y ∷ zs) rest

pub merges_are_unique : MergesAreUnique
merges_are_unique journals lines others is are =
    same-lines (length journals) lines others is.within are.within is.rise are.rise (λ k below. is.whole k below ∙ sym (are.whole k below))
