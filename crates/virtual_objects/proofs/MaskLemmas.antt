-- Masks that are a run of units.
use Rattle.std.proofs.Common.{◌≡◌, ◌∙◌, sym, ap, refl, ℕ, zero, suc, ◌+◌, ◌-◌, ◌*◌, ◌%◌, ◌^◌, ◌<◌, ◌≤◌, arith, inl, inr, ◌==◌, Bool, true, false, List, [], ◌∷◌, ◌++◌, filter}
use Rattle.std.specs.List.{range_with_len}
use Rattle.std.proofs.lemmas.Bool.{eq-eqb, ne_eqb, cond-true, cond-false, cases_eq, cases_lt, false≢true}
use Rattle.std.proofs.lemmas.List.{append-nil}
use Rattle.std.proofs.lemmas.List.Elements.{filter-append}
use Rattle.std.proofs.lemmas.Nat.{one_shl, pow_pos}
use Rattle.std.proofs.lemmas.Nat.Bits.{shr_and_one, bit_at_mask_inside, bit_at_mask_below, bit_at_mask_above}
use Rattle.std.proofs.Math.Nat.{pow-le-pow_right}
use Rattle.raid_base.specs.Cells.{has_unit}
use Rattle.stripe_layout.specs.Placement.{units_in}
use Rattle.virtual_objects.specs.Objects.{rank}

-- a run in two pieces
pub range-split : (a m n : ℕ) → range_with_len a (m + n) ≡ range_with_len a m ++ range_with_len (a + m) n
range-split a zero n = (let e : zero + n ≡ n = omega arith in let f : a + zero ≡ a = omega arith in rw (e, f) refl)
range-split a (suc m) n =
    let e : suc m + n ≡ suc (m + n) = omega arith in
    let f : a + suc m ≡ a + 1 + m = omega arith in
    rw (e, f) (ap (λ (xs : List ℕ). a ∷ xs) (range-split (a + 1) m n))

pub filter-range_none : (p : ℕ → Bool) (a m : ℕ) → ((k : ℕ) → a ≤ k → k < a + m → p k ≡ false) → filter p (range_with_len a m) ≡ []
filter-range_none p a zero h = refl
filter-range_none p a (suc m) h =
    cond-false (p a) _ _ (h a (omega arith) (omega arith)) ∙ filter-range_none p (a + 1) m (λ k low high. h k (omega arith) (omega arith))

pub filter-range_all : (p : ℕ → Bool) (a m : ℕ) → ((k : ℕ) → a ≤ k → k < a + m → p k ≡ true) → filter p (range_with_len a m) ≡ range_with_len a m
filter-range_all p a zero h = refl
filter-range_all p a (suc m) h =
    cond-true (p a) _ _ (h a (omega arith) (omega arith)) ∙ ap (λ (xs : List ℕ). a ∷ xs) (filter-range_all p (a + 1) m (λ k low high. h k (omega arith) (omega arith)))

pub unit_inside : (low high unit : ℕ) → low ≤ unit → unit < high → has_unit (2 ^ high - 2 ^ low) unit ≡ true
unit_inside low high unit a b = eq-eqb _ _ (shr_and_one (2 ^ high - 2 ^ low) unit ∙ bit_at_mask_inside low high unit a b)

pub unit_below : (low high unit : ℕ) → unit < low → has_unit (2 ^ high - 2 ^ low) unit ≡ false
unit_below low high unit a = ne_eqb _ _ (λ e. (let zero_is_one : 0 ≡ 1 = sym (bit_at_mask_below low high unit a) ∙ sym (shr_and_one (2 ^ high - 2 ^ low) unit) ∙ e in absurd (omega arith)))

pub unit_above : (low high unit : ℕ) → high ≤ unit → has_unit (2 ^ high - 2 ^ low) unit ≡ false
unit_above low high unit a = ne_eqb _ _ (λ e. (let zero_is_one : 0 ≡ 1 = sym (bit_at_mask_above low high unit a) ∙ sym (shr_and_one (2 ^ high - 2 ^ low) unit) ∙ e in absurd (omega arith)))

-- the units of a run
pub units_of_run : (n low high : ℕ) → low ≤ high → high ≤ n - 1 → units_in n (2 ^ high - 2 ^ low) ≡ range_with_len low (high - low)
units_of_run n low high a b =
    let p : ℕ → Bool = has_unit (2 ^ high - 2 ^ low) in
    let cut : n - 1 ≡ low + ((high - low) + (n - 1 - high)) = omega arith in
    let whole : range_with_len 0 (n - 1) ≡ range_with_len 0 low ++ (range_with_len low (high - low) ++ range_with_len high (n - 1 - high)) =
    ap (range_with_len 0) cut ∙ range-split 0 low _
    ∙ (let e : 0 + low ≡ low = omega arith in let f : low + (high - low) ≡ high = omega arith in
    rw e (ap (λ (xs : List ℕ). range_with_len 0 low ++ xs) (range-split low (high - low) (n - 1 - high) ∙ rw f refl))) in
    ap (filter p) whole
    ∙ filter-append p (range_with_len 0 low) _
    ∙ ap (λ (xs : List ℕ). xs ++ filter p (range_with_len low (high - low) ++ range_with_len high (n - 1 - high))) (filter-range_none p 0 low (λ k h q. unit_below low high k (omega arith)))
    ∙ filter-append p (range_with_len low (high - low)) _
    ∙ ap (λ (xs : List ℕ). filter p (range_with_len low (high - low)) ++ xs) (filter-range_none p high (n - 1 - high) (λ k h q. unit_above low high k h))
    ∙ append-nil _
    ∙ filter-range_all p low (high - low) (λ k h q. unit_inside low high k h (omega arith))

pub run_within : (low high d : ℕ) → low ≤ high → high ≤ d → 2 ^ high - 2 ^ low < 2 ^ d
run_within low high d a b = omega (arith, pow_pos low, pow_pos d, pow-le-pow_right {n = 2} (omega arith) b)

pub shifts_order : (low high : ℕ) → low ≤ high → high ≤ 15 → 1 * 2 ^ low % 4294967296 ≤ 1 * 2 ^ high % 4294967296
shifts_order low high a b =
    let l : 1 * 2 ^ low % 2 ^ 32 ≡ 2 ^ low = one_shl low 32 (omega arith) in
    let h : 1 * 2 ^ high % 2 ^ 32 ≡ 2 ^ high = one_shl high 32 (omega arith) in
    rw (l, h) (pow-le-pow_right {n = 2} (omega arith) a)

-- the place of a unit in a run
pub rank-run : (low len unit : ℕ) → low ≤ unit → unit < low + len → rank unit (range_with_len low len) ≡ unit - low
rank-run low zero unit a b = absurd (omega arith)
rank-run low (suc len) unit a b = elim (cases_eq low unit) [
  | inl same ↦ cond-true (low == unit) 0 _ (eq-eqb low unit same) ∙ (let e : 0 ≡ unit - low = omega arith in e)
  | inr other ↦ cond-false (low == unit) 0 _ (ne_eqb low unit other) ∙ ap (λ (k : ℕ). k + 1) (rank-run (low + 1) len unit (not_same low unit a other) (omega arith))
      ∙ (let above : low + 1 ≤ unit = not_same low unit a other in let e : unit - (low + 1) + 1 ≡ unit - low = omega arith in e)
]
  where
    not_same : (low unit : ℕ) → low ≤ unit → (low ≡ unit → ⊥) → low + 1 ≤ unit
    not_same low unit a other = omega arith

-- a unit that a run has
pub run_has : (low high unit : ℕ) → has_unit (2 ^ high - 2 ^ low) unit ≡ true → (low ≤ unit) × (unit < high)
run_has low high unit h = (
  elim (cases_lt unit low) [ inl below ↦ absurd (let e = sym (unit_below low high unit below) ∙ h in false≢true e) | inr above ↦ above ],
  elim (cases_lt unit high) [ inl inside ↦ inside | inr above ↦ absurd (let e = sym (unit_above low high unit above) ∙ h in false≢true e) ],
)
