-- Rows by their units, and the others of a unit in any order.
use Rattle.std.proofs.Common.{◌≡◌, ◌≢◌, ◌∙◌, inl, ℕ, zero, suc, ◌+◌, ◌<◌, ◌==◌, Bool, true, false, not, List, [], ◌∷◌, ◌++◌, map, filter, length, replicate, take, drop, slice_set, refl, ap, sym, subst, add-one, zero-add, arith}
use Rattle.std.specs.List.{range_with_len}
use Rattle.std.proofs.lemmas.List.{get_or-set_other}
use Rattle.std.proofs.lemmas.Bool.Decides.{nat_tests}
use Rattle.raid_base.specs.declared.cells.Cell.{Cell}
use Rattle.raid_base.specs.Cells.{zero_cell, plain_cell, has_unit}
use Rattle.raid_xor.specs.Sums.{xor_of, sum_of}
use Rattle.raid_xor.specs.Laws.{AreBlocks}
use Rattle.raid_xor.proofs.XorLemmas.{length-sum_of, sum_of-cons}
use Rattle.raid_xor.specs.Parities.{fold_small, parity_of}
use Rattle.raid_xor.proofs.Parities.{bytes-parity_of, order_free, split, AreBlocks-split}
use Rattle.degraded_plans.specs.Missing.{missing_of}
use Rattle.degraded_plans.specs.Rows.{AreDataCells, IsSound}
use Rattle.degraded_plans.specs.Laws.{Change, folded_small, folded_from, Leaves, AreApart, cell_of, IsByUnits}
use Rattle.degraded_plans.proofs.SoundRows.{parity_sound}
use Rattle.degraded_plans.proofs.Writes.{once}

-- The old cells serve where no unit changes twice
abbrev Agree : List Cell → List Cell → List Change → Type 0
Agree xs ys [] = Unit {0}
Agree xs ys (change ∷ changes) = (cell_of xs change.unit ≡ cell_of ys change.unit) × Agree xs ys changes

agree_self : (xs : List Cell) (changes : List Change) → Agree xs xs changes
agree_self xs [] = tt
agree_self xs (change ∷ changes) = (refl, agree_self xs changes)

agree_set : (xs ys : List Cell) (unit : ℕ) (cell : Cell) (changes : List Change) → Leaves unit changes → Agree xs ys changes → Agree xs (slice_set ys unit cell) changes
agree_set xs ys unit cell [] ls gs = tt
agree_set xs ys unit cell (change ∷ changes) ls gs =
    (gs.0 ∙ sym (get_or-set_other ys unit change.unit cell zero_cell ls.0), agree_set xs ys unit cell changes ls.1 gs.1)

old_by : (parity : Cell) (xs ys : List Cell) (changes : List Change) → AreApart changes → Agree xs ys changes → folded_from parity xs changes ≡ folded_small parity ys changes
old_by parity xs ys [] apart gs = refl
old_by parity xs ys (change ∷ changes) apart gs =
    ap (λ old. folded_from (fold_small parity old change.block change.unit) xs changes) gs.0
    ∙ old_by (fold_small parity (cell_of ys change.unit) change.block change.unit) xs (once ys change) changes apart.1
    (agree_set xs ys change.unit (plain_cell change.block) changes apart.0 gs.1)

pub old_serve : (parity : Cell) (cells : List Cell) (changes : List Change) → AreApart changes → folded_from parity cells changes ≡ folded_small parity cells changes
old_serve parity cells changes apart = old_by parity cells cells changes apart (agree_self cells changes)

-- Rows by units
next_of : (whole cells : List Cell) (cell : Cell) (start : ℕ) → ((k : ℕ) → cell_of whole (start + k) ≡ cell_of (cell ∷ cells) k) → (k : ℕ) → cell_of whole (start + 1 + k) ≡ cell_of cells k
next_of whole cells cell start h k =
    let e : start + 1 + k ≡ start + suc k = omega arith in
    ap (λ n. cell_of whole n) e ∙ h (suc k)

first_of : (whole cells : List Cell) (cell : Cell) (start : ℕ) → ((k : ℕ) → cell_of whole (start + k) ≡ cell_of (cell ∷ cells) k) → cell_of whole start ≡ cell
first_of whole cells cell start h =
    let e : start ≡ start + 0 = omega arith in
    ap (λ n. cell_of whole n) e ∙ h 0

from_start : (whole cells : List Cell) (start : ℕ) → ((k : ℕ) → cell_of whole (start + k) ≡ cell_of cells k) → map (cell_of whole) (range_with_len start (length cells)) ≡ cells
from_start whole [] start h = refl
from_start whole (cell ∷ cells) start h =
    ap (λ first. first ∷ map (cell_of whole) (range_with_len (start + 1) (length cells))) (first_of whole cells cell start h)
    ∙ ap (λ rest. cell ∷ rest) (from_start whole cells (start + 1) (next_of whole cells cell start h))

not_same : (m n : ℕ) → m ≢ n → (m == n) ≡ false
not_same m n e = grind (arith, nat_tests)

same : (m n : ℕ) → m ≡ n → (m == n) ≡ true
same m n e = grind (arith, nat_tests)

but_after : (whole cells : List Cell) (unit start : ℕ) → unit < start → ((k : ℕ) → cell_of whole (start + k) ≡ cell_of cells k) →
    map (cell_of whole) (filter (λ other. not (other == unit)) (range_with_len start (length cells))) ≡ cells
but_after whole [] unit start p h = refl
but_after whole (cell ∷ cells) unit start p h =
    let apart : start ≢ unit = λ e. omega arith in
    let more = but_after whole cells unit (start + 1) (omega arith) (next_of whole cells cell start h) in
    rw (not_same start unit apart)
    (ap (λ first. first ∷ map (cell_of whole) (filter (λ other. not (other == unit)) (range_with_len (start + 1) (length cells)))) (first_of whole cells cell start h)
    ∙ ap (λ rest. cell ∷ rest) more)

but_from : (whole cells : List Cell) (unit start d : ℕ) → unit ≡ start + d → ((k : ℕ) → cell_of whole (start + k) ≡ cell_of cells k) →
    map (cell_of whole) (filter (λ other. not (other == unit)) (range_with_len start (length cells))) ≡ take d cells ++ drop (suc d) cells
but_from whole [] unit start zero e h = refl
but_from whole [] unit start (suc d) e h = refl
but_from whole (cell ∷ cells) unit start zero e h =
    let here : start ≡ unit = omega arith in
    rw (same start unit here) (but_after whole cells unit (start + 1) (omega arith) (next_of whole cells cell start h))
but_from whole (cell ∷ cells) unit start (suc d) e h =
    let apart : start ≢ unit = λ f. omega arith in
    let more = but_from whole cells unit (start + 1) d (omega arith) (next_of whole cells cell start h) in
    rw (not_same start unit apart)
    (ap (λ first. first ∷ map (cell_of whole) (filter (λ other. not (other == unit)) (range_with_len (start + 1) (length cells)))) (first_of whole cells cell start h)
    ∙ ap (λ rest. cell ∷ rest) more)

from_zero : (cells : List Cell) (k : ℕ) → cell_of cells (0 + k) ≡ cell_of cells k
from_zero cells k = ap (λ n. cell_of cells n) (zero-add k)

pub by_units : (cells : List Cell) → IsByUnits cells
by_units cells = record {
  all = from_start cells cells 0 (from_zero cells);
  but = λ unit. but_from cells cells unit 0 unit (sym (zero-add unit)) (from_zero cells) ∙ ap (λ n. take unit cells ++ drop n cells) (sym (add-one unit));
}

-- The others in any order
sum_order : (cell : ℕ → Cell) (chosen : ℕ → Bool) (units : List ℕ) → AreBlocks (map cell units) → sum_of (split cell chosen units) ≡ sum_of (map cell units)
sum_order cell chosen units bs =
    sym (bytes-parity_of (split cell chosen units)) ∙ ap (λ (parity : Cell). parity.bytes) (order_free cell chosen units bs) ∙ bytes-parity_of (map cell units)

missing_sum : (parity : Cell) (xs ys : List Cell) (unit : ℕ) (b : Bool) → has_unit parity.lost unit ≡ b → sum_of (parity ∷ xs) ≡ sum_of (parity ∷ ys) → missing_of parity xs unit ≡ missing_of parity ys unit
missing_sum parity xs ys unit true h e = rw h refl
missing_sum parity xs ys unit false h e = rw h (ap (λ bytes. plain_cell bytes) e)

missing_long : (parity : Cell) (xs : List Cell) (unit : ℕ) (b : Bool) → has_unit parity.lost unit ≡ b → AreBlocks (parity ∷ xs) → length (missing_of parity xs unit).bytes ≡ 64
missing_long parity xs unit true h bs = rw h refl
missing_long parity xs unit false h bs = rw h (length-sum_of (parity ∷ xs) bs)

pub any_order : (parity : Cell) (cell : ℕ → Cell) (chosen : ℕ → Bool) (units : List ℕ) (unit : ℕ) → AreBlocks (parity ∷ map cell units) →
    (missing_of parity (split cell chosen units) unit ≡ missing_of parity (map cell units) unit) × (length (missing_of parity (map cell units) unit).bytes ≡ 64)
any_order parity cell chosen units unit bs =
    let same = sum_of-cons parity (split cell chosen units) (bs.0, AreBlocks-split cell chosen units bs.1)
    ∙ ap (λ bytes. xor_of parity.bytes bytes) (sum_order cell chosen units bs.1)
    ∙ sym (sum_of-cons parity (map cell units) bs) in (
      missing_sum parity (split cell chosen units) (map cell units) unit (has_unit parity.lost unit) refl same,
      missing_long parity (map cell units) unit (has_unit parity.lost unit) refl bs,
    )

-- Zeros
zeros_add : (count : ℕ) → parity_of (replicate count zero_cell) ≡ zero_cell
zeros_add zero = refl
zeros_add (suc count) = zeros_add count

zero_blocks : (count : ℕ) → AreBlocks (replicate count zero_cell)
zero_blocks zero = tt
zero_blocks (suc count) = (refl, zero_blocks count)

zero_data : (unit count : ℕ) → AreDataCells unit (replicate count zero_cell)
zero_data unit zero = tt
zero_data unit (suc count) = (inl refl, zero_data (unit + 1) count)

pub zeros_sound : (count : ℕ) → IsSound zero_cell (replicate count zero_cell)
zeros_sound count =
    let P : Cell → Type 0 = λ parity. IsSound parity (replicate count zero_cell) in
    subst P (zeros_add count) (parity_sound (replicate count zero_cell) (zero_blocks count) (zero_data 0 count))
