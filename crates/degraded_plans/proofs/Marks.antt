-- The marks of data cells as a number: one bit for each unit.
use Rattle.std.proofs.Common.{◌≡◌, ◌∙◌, ℕ, suc, ◌+◌, ◌*◌, ◌/◌, ◌^◌, ◌<◌, ◌==◌, Bool, true, false, List, [], ◌∷◌, ◌++◌, length, bit_and, refl, ap, sym, add-one, arith}
use Rattle.std.proofs.lemmas.Nat.{shr_high, and_mask}
use Rattle.std.proofs.Math.Nat.{two-pow-succ, add_comm, zero-add, mul-one}
use Rattle.raid_base.specs.declared.cells.Cell.{Cell}
use Rattle.raid_base.specs.Cells.{has_unit, with_unit, without_unit}
use Rattle.degraded_plans.specs.Rows.{lost_from}

-- 1 for a lost cell
abbrev pub mark_by : Bool → ℕ
mark_by true = 0
mark_by false = 1

abbrev pub mark : Cell → ℕ
mark cell = mark_by (cell.lost == 0)

-- the marks from some unit on, shifted down to it
abbrev pub high : List Cell → ℕ
high [] = 0
high (cell ∷ cells) = mark cell + 2 * high cells

one_more : (m h p q : ℕ) → q ≡ p + p → m * p + h * q ≡ (m + 2 * h) * p
one_more m h p q e = rw e (grind arith)

lost_cons_by : (unit : ℕ) (cell : Cell) (cells : List Cell) (b : Bool) → (cell.lost == 0) ≡ b → lost_from unit (cell ∷ cells) ≡ mark_by b * 2 ^ unit + lost_from (unit + 1) cells
lost_cons_by unit cell cells true e = rw e (omega arith)
lost_cons_by unit cell cells false e = rw e (omega arith)

pub lost_from-cons : (unit : ℕ) (cell : Cell) (cells : List Cell) → lost_from unit (cell ∷ cells) ≡ mark cell * 2 ^ unit + lost_from (unit + 1) cells
lost_from-cons unit cell cells = lost_cons_by unit cell cells (cell.lost == 0) refl

-- marks from a unit on are that power of two, so many times
pub lost_is_high : (unit : ℕ) (cells : List Cell) → lost_from unit cells ≡ high cells * 2 ^ unit
lost_is_high unit [] = omega arith
lost_is_high unit (cell ∷ cells) =
    lost_from-cons unit cell cells
    ∙ ap (λ rest. mark cell * 2 ^ unit + rest) (lost_is_high (unit + 1) cells)
    ∙ one_more (mark cell) (high cells) (2 ^ unit) (2 ^ (unit + 1)) (ap (λ n. 2 ^ n) (add-one unit) ∙ two-pow-succ unit)

-- all marks of a row
pub lost_all : (cells : List Cell) → lost_from 0 cells ≡ high cells
lost_all cells = lost_is_high 0 cells ∙ mul-one (high cells)

moved : (m h y p q : ℕ) → q ≡ p + p → m + 2 * (h + y * p) ≡ (m + 2 * h) + y * q
moved m h y p q e = rw e (grind arith)

pub high-append : (xs ys : List Cell) → high (xs ++ ys) ≡ high xs + high ys * 2 ^ length xs
high-append [] ys = omega arith
high-append (x ∷ xs) ys =
    ap (λ rest. mark x + 2 * rest) (high-append xs ys)
    ∙ moved (mark x) (high xs) (high ys) (2 ^ length xs) (2 ^ suc (length xs)) (two-pow-succ (length xs))

mark_below : (b : Bool) → mark_by b < 2
mark_below true = omega arith
mark_below false = omega arith

-- and they lie below the unit behind them
pub lost_below : (cells : List Cell) → high cells < 2 ^ length cells
lost_below [] = omega arith
lost_below (cell ∷ cells) =
    let low = mark_below (cell.lost == 0) in
    let more = lost_below cells in
    rw two-pow-succ (omega arith)

-- the bit of a unit, among those below and those above
even : (h : ℕ) → bit_and (2 * h) 1 ≡ 0
even h = and_mask (2 * h) 1 ∙ omega arith

odd : (h : ℕ) → bit_and (1 + 2 * h) 1 ≡ 1
odd h = and_mask (1 + 2 * h) 1 ∙ omega arith

-- a number with this part below the unit, its bit, and this part above it
abbrev pub with_bit : ℕ → ℕ → ℕ → ℕ → ℕ
with_bit low bit above unit = low + (bit + 2 * above) * 2 ^ unit

shifted : (low bit above unit : ℕ) → low < 2 ^ unit → with_bit low bit above unit / 2 ^ unit ≡ bit + 2 * above
shifted low bit above unit p = ap (λ n. n / 2 ^ unit) (add_comm low ((bit + 2 * above) * 2 ^ unit)) ∙ shr_high (bit + 2 * above) unit low p

pub has_none : (low above unit : ℕ) → low < 2 ^ unit → has_unit (with_bit low 0 above unit) unit ≡ false
has_none low above unit p = rw (shifted low 0 above unit p) (rw zero-add (rw even refl))

pub has_one : (low above unit : ℕ) → low < 2 ^ unit → has_unit (with_bit low 1 above unit) unit ≡ true
has_one low above unit p = rw (shifted low 1 above unit p) (rw odd refl)

one_bit : (low above p : ℕ) → low + (1 + 2 * above) * p ≡ low + (0 + 2 * above) * p + p
one_bit low above p = grind arith

pub without_none : (low above unit : ℕ) → low < 2 ^ unit → without_unit (with_bit low 0 above unit) unit ≡ with_bit low 0 above unit
without_none low above unit p = rw (has_none low above unit p) refl

pub without_one : (low above unit : ℕ) → low < 2 ^ unit → without_unit (with_bit low 1 above unit) unit ≡ with_bit low 0 above unit
without_one low above unit p = rw (has_one low above unit p) (let more = one_bit low above (2 ^ unit) in omega arith)

pub with_none : (low above unit : ℕ) → low < 2 ^ unit → with_unit (with_bit low 0 above unit) unit ≡ with_bit low 1 above unit
with_none low above unit p = rw (has_none low above unit p) (sym (one_bit low above (2 ^ unit)))

pub with_one : (low above unit : ℕ) → low < 2 ^ unit → with_unit (with_bit low 1 above unit) unit ≡ with_bit low 1 above unit
with_one low above unit p = rw (has_one low above unit p) refl

-- the marks of a row, seen from one unit
pub high_at : (before : List Cell) (cell : Cell) (later : List Cell) → high (before ++ cell ∷ later) ≡ with_bit (high before) (mark cell) (high later) (length before)
high_at before cell later = high-append before (cell ∷ later)
