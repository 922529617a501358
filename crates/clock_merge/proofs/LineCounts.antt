-- There are as many lines as entries of all bays together.
use Rattle.std.proofs.Common.{◌≡◌, ℕ, zero, suc, ◌+◌, ◌<◌, ◌≤◌, ◌==◌, Bool, true, false, if◌then◌else◌, List, [], ◌∷◌, length, sum_by, refl, sym, arith}
use Rattle.std.specs.List.{AllByRecursion, slice_index_or}
use Rattle.std.proofs.lemmas.List.Sums.{sum_by-cons}
use Rattle.std.proofs.lemmas.Bool.Decides.{nat_tests}
use Rattle.raid_base.specs.declared.messages.Entry.{Entry}
use Rattle.stripe_layout.specs.Placement.{bay}
use Rattle.clock_merge.specs.Merge.{Line, entries_at}

-- the sum over the numbers below n
abbrev total : (ℕ → ℕ) → ℕ → ℕ
total f zero = 0
total f (suc n) = f 0 + total (λ k. f (suc k)) n

total-zeros : (f : ℕ → ℕ) (n : ℕ) → ((k : ℕ) → f k ≡ 0) → total f n ≡ 0
total-zeros f zero zeros = refl
total-zeros f (suc n) zeros = omega (arith, zeros 0, total-zeros (λ k. f (suc k)) n (λ k. zeros (suc k)))

total-same : (f g : ℕ → ℕ) (n : ℕ) → ((k : ℕ) → f k ≡ g k) → total f n ≡ total g n
total-same f g zero same = refl
total-same f g (suc n) same = omega (arith, same 0, total-same (λ k. f (suc k)) (λ k. g (suc k)) n (λ k. same (suc k)))

total-less : (f g : ℕ → ℕ) (n : ℕ) → ((k : ℕ) → k < n → f k ≤ g k) → total f n ≤ total g n
total-less f g zero less = omega arith
total-less f g (suc n) less = omega (arith, less 0 (omega arith), total-less (λ k. f (suc k)) (λ k. g (suc k)) n (λ k below. less (suc k) (omega arith)))

-- one of them is greater by one
total-one : (f g : ℕ → ℕ) (at n : ℕ) → at < n → g at ≡ f at + 1 → ((k : ℕ) → (at ≡ k → ⊥) → g k ≡ f k) → total g n ≡ total f n + 1
total-one f g at zero below one same = absurd (omega arith)
total-one f g zero (suc n) below one same =
    omega (arith, one, total-same (λ k. g (suc k)) (λ k. f (suc k)) n (λ k. same (suc k) (λ e. omega (arith, e))))
total-one f g (suc at) (suc n) below one same =
    omega (arith, same 0 (λ e. omega (arith, e)), total-one (λ k. f (suc k)) (λ k. g (suc k)) at n (omega arith) one (λ k other. same (suc k) (λ e. other (omega (arith, e)))))

total-lengths : (journals : List (List Entry)) → total (λ k. length (slice_index_or journals k [])) (length journals) ≡ sum_by (λ (es : List Entry). length es) journals
total-lengths [] = refl
total-lengths (journal ∷ journals) = omega (arith, total-lengths journals, sum_by-cons (λ (es : List Entry). length es) journal journals)

lines-total : (n : ℕ) (lines : List Line) → AllByRecursion (λ (line : Line). line.bay.0 < n) lines → length lines ≡ total (λ k. length (entries_at (bay k) lines)) n
lines-total n [] within = sym (total-zeros (λ k. length (entries_at (bay k) [])) n (λ k. refl))
lines-total n (line ∷ lines) within =
    omega (
      arith,
      lines-total n lines within.1,
      total-one (λ k. length (entries_at (bay k) lines)) (λ k. length (entries_at (bay k) (line ∷ lines))) line.bay.0 n within.0
          (here (line.bay.0 == line.bay.0) refl) (λ k other. there k (line.bay.0 == k) refl other),
    )
  where
    here : (b : Bool) → (line.bay.0 == line.bay.0) ≡ b → length (if b then line.entry ∷ entries_at line.bay lines else entries_at line.bay lines) ≡ length (entries_at line.bay lines) + 1
    here true e = omega arith
    here false e = absurd (grind (arith, nat_tests))

    there : (k : ℕ) (b : Bool) → (line.bay.0 == k) ≡ b → (line.bay.0 ≡ k → ⊥) → length (if b then line.entry ∷ entries_at (bay k) lines else entries_at (bay k) lines) ≡ length (entries_at (bay k) lines)
    there k true e other = absurd (other (grind (arith, nat_tests)))
    there k false e other = refl

-- so no more than the journals have, where no bay has more than its journal
pub lines-few : (journals : List (List Entry)) (lines : List Line) → AllByRecursion (λ (line : Line). line.bay.0 < length journals) lines →
    ((k : ℕ) → k < length journals → length (entries_at (bay k) lines) ≤ length (slice_index_or journals k [])) → length lines ≤ sum_by (λ (es : List Entry). length es) journals
lines-few journals lines within few =
    omega (
      arith,
      lines-total (length journals) lines within,
      total-less (λ k. length (entries_at (bay k) lines)) (λ k. length (slice_index_or journals k [])) (length journals) few,
      total-lengths journals,
    )
