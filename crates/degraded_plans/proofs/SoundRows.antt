-- What keeps a row sound, seen from one of its units.
use Rattle.std.proofs.Common.{◌≡◌, ◌∙◌, inl, inr, ℕ, suc, ◌+◌, ◌*◌, ◌^◌, ◌<◌, ◌==◌, true, false, List, [], ◌∷◌, ◌++◌, length, bit_or, fold, refl, ap, sym, subst, add-one, arith}
use Rattle.std.specs.Int.Bits.{or_zero_r}
use Rattle.std.proofs.lemmas.Nat.{pow_pos, or_comm, or_shifted, or_lt}
use Rattle.std.proofs.Math.Nat.{two-pow-succ, add_comm, zero-add, one-mul, mul-one}
use Rattle.std.proofs.Math.Pow.{pow-lt}
use Rattle.std.proofs.lemmas.List.Sums.{fold-append}
use Rattle.std.proofs.lemmas.Bool.Decides.{nat_tests}
use Rattle.raid_base.specs.declared.cells.Cell.{Cell}
use Rattle.raid_base.specs.Cells.{zeros, plain_cell, has_unit, with_unit, without_unit}
use Rattle.raid_xor.specs.Sums.{xor_of, sum_of}
use Rattle.raid_xor.specs.Laws.{AreBlocks}
use Rattle.raid_xor.proofs.XorLemmas.{xor_of-comm, xor_of-assoc, zero_last, zero_first, itself, cancel, swap, same_from_zero, sum_of-cons, sum_of-append, length-sum_of, length-xor_of, AreBlocks-append}
use Rattle.raid_xor.specs.Parities.{fold_small, parity_of}
use Rattle.raid_xor.proofs.Parities.{same_cell, bytes-parity_of, lost-parity_of, marked, marks_of}
use Rattle.degraded_plans.specs.Missing.{missing_of}
use Rattle.degraded_plans.specs.Rows.{lost_from, IsDataCell, AreDataCells, IsSound}
use Rattle.degraded_plans.proofs.Marks.{mark, mark_by, high, high_at, lost_all, lost_below, with_bit, has_none, has_one, without_none, without_one, with_none}

-- the parity's bytes are the sum of the data, and the other way round
pub parity_sum : (parity : Cell) (cells : List Cell) → AreBlocks (parity ∷ cells) → sum_of (parity ∷ cells) ≡ zeros → parity.bytes ≡ sum_of cells
parity_sum parity cells bs e =
    same_from_zero parity.bytes (sum_of cells) bs.0 (length-sum_of cells bs.1) (sym (sum_of-cons parity cells bs) ∙ e)

pub sum_zero : (parity : Cell) (cells : List Cell) → AreBlocks (parity ∷ cells) → parity.bytes ≡ sum_of cells → sum_of (parity ∷ cells) ≡ zeros
sum_zero parity cells bs e =
    sum_of-cons parity cells bs ∙ ap (λ bytes. xor_of bytes (sum_of cells)) e ∙ itself (sum_of cells) (length-sum_of cells bs.1)

-- a cell taken out of a sum
pub sum_of-at : (before : List Cell) (cell : Cell) (later : List Cell) → AreBlocks before → AreBlocks (cell ∷ later) → sum_of (before ++ cell ∷ later) ≡ xor_of cell.bytes (sum_of (before ++ later))
sum_of-at before cell later bs cs =
    sum_of-append before (cell ∷ later) bs cs
    ∙ ap (λ bytes. xor_of (sum_of before) bytes) (sum_of-cons cell later cs)
    ∙ swap (sum_of before) cell.bytes (sum_of later)
    ∙ ap (λ bytes. xor_of cell.bytes bytes) (sym (sum_of-append before later bs cs.1))

-- blocks of a row, and data cells of a row, by its parts
pub AreBlocks-front : (xs ys : List Cell) → AreBlocks (xs ++ ys) → AreBlocks xs
AreBlocks-front [] ys bs = tt
AreBlocks-front (x ∷ xs) ys bs = (bs.0, AreBlocks-front xs ys bs.1)

pub AreBlocks-back : (xs ys : List Cell) → AreBlocks (xs ++ ys) → AreBlocks ys
AreBlocks-back [] ys bs = bs
AreBlocks-back (x ∷ xs) ys bs = AreBlocks-back xs ys bs.1

at_start : (m n : ℕ) (cells : List Cell) → m ≡ n → AreDataCells m cells → AreDataCells n cells
at_start m n cells e ds = let P : ℕ → Type 0 = λ k. AreDataCells k cells in subst P e ds

pub AreData-append : (unit n : ℕ) (xs ys : List Cell) → n ≡ unit + length xs → AreDataCells unit xs → AreDataCells n ys → AreDataCells unit (xs ++ ys)
AreData-append unit n [] ys e ds es = at_start n unit ys (omega arith) es
AreData-append unit n (x ∷ xs) ys e ds es = (ds.0, AreData-append (unit + 1) n xs ys (omega arith) ds.1 es)

pub AreData-front : (unit : ℕ) (xs ys : List Cell) → AreDataCells unit (xs ++ ys) → AreDataCells unit xs
AreData-front unit [] ys ds = tt
AreData-front unit (x ∷ xs) ys ds = (ds.0, AreData-front (unit + 1) xs ys ds.1)

pub AreData-back : (unit n : ℕ) (xs ys : List Cell) → n ≡ unit + length xs → AreDataCells unit (xs ++ ys) → AreDataCells n ys
AreData-back unit n [] ys e ds = at_start unit n ys (omega arith) ds
AreData-back unit n (x ∷ xs) ys e ds = AreData-back (unit + 1) n xs ys (omega arith) ds.1

-- the mark of a data cell
mark_none : (cell : Cell) → cell.lost ≡ 0 → mark cell ≡ 0
mark_none cell e = ap (λ lost. mark_by (lost == 0)) e

not_zero : (n : ℕ) → 0 < n → (n == 0) ≡ false
not_zero n p = grind (arith, nat_tests)

mark_one : (unit : ℕ) (cell : Cell) → cell.lost ≡ 2 ^ unit → mark cell ≡ 1
mark_one unit cell e = ap (λ lost. mark_by (lost == 0)) e ∙ ap mark_by (not_zero (2 ^ unit) (pow_pos unit))

marks_at : (parity : Cell) (before : List Cell) (cell : Cell) (later : List Cell) (m : ℕ) → parity.lost ≡ lost_from 0 (before ++ cell ∷ later) → mark cell ≡ m → parity.lost ≡ with_bit (high before) m (high later) (length before)
marks_at parity before cell later m e f =
    e ∙ lost_all (before ++ cell ∷ later) ∙ high_at before cell later ∙ ap (λ bit. with_bit (high before) bit (high later) (length before)) f

-- Each cell is what the others make of it
others_sum : (parity : Cell) (before : List Cell) (cell : Cell) (later : List Cell) → AreBlocks (parity ∷ (before ++ cell ∷ later)) → sum_of (parity ∷ (before ++ cell ∷ later)) ≡ zeros →
    sum_of (parity ∷ (before ++ later)) ≡ cell.bytes
others_sum parity before cell later bs e =
    let front = AreBlocks-front before (cell ∷ later) bs.1 in
    let back = AreBlocks-back before (cell ∷ later) bs.1 in
    let both = AreBlocks-append before later front back.1 in
    let rest = sum_of (before ++ later) in
    sum_of-cons parity (before ++ later) (bs.0, both)
    ∙ ap (λ bytes. xor_of bytes rest) (parity_sum parity (before ++ cell ∷ later) bs e ∙ sum_of-at before cell later front back)
    ∙ xor_of-assoc cell.bytes rest rest
    ∙ ap (λ bytes. xor_of cell.bytes bytes) (itself rest (length-sum_of (before ++ later) both))
    ∙ zero_last cell.bytes back.0

missing_by : (parity : Cell) (before : List Cell) (cell : Cell) (later : List Cell) → AreBlocks (parity ∷ (before ++ cell ∷ later)) → IsSound parity (before ++ cell ∷ later) → IsDataCell (length before) cell →
    missing_of parity (before ++ later) (length before) ≡ cell
missing_by parity before cell later bs s (inl plain) =
    let unit = length before in
    let marks = marks_at parity before cell later 0 s.marks (mark_none cell plain) in
    let none : has_unit parity.lost unit ≡ false = ap (λ lost. has_unit lost unit) marks ∙ has_none (high before) (high later) unit (lost_below before) in
    rw none (same_cell (record { bytes = sum_of (parity ∷ (before ++ later)); lost = 0 }) cell (others_sum parity before cell later bs s.sum) (sym plain))
missing_by parity before cell later bs s (inr lost) =
    let unit = length before in
    let marks = marks_at parity before cell later 1 s.marks (mark_one unit cell lost.0) in
    let one : has_unit parity.lost unit ≡ true = ap (λ lost. has_unit lost unit) marks ∙ has_one (high before) (high later) unit (lost_below before) in
    rw one (same_cell (record { bytes = zeros; lost = 2 ^ unit }) cell (sym lost.1) (sym lost.0))

data_at : (before : List Cell) (cell : Cell) (later : List Cell) → AreDataCells 0 (before ++ cell ∷ later) → AreDataCells (length before) (cell ∷ later)
data_at before cell later ds = AreData-back 0 (length before) before (cell ∷ later) (omega arith) ds

pub missing_is : (parity : Cell) (before : List Cell) (cell : Cell) (later : List Cell) → AreBlocks (parity ∷ (before ++ cell ∷ later)) → IsSound parity (before ++ cell ∷ later) →
    missing_of parity (before ++ later) (length before) ≡ cell
missing_is parity before cell later bs s = missing_by parity before cell later bs s (data_at before cell later s.cells).0

-- A unit's change is folded into the parity
small_bytes : (parity old rest new : List ℕ) → length old ≡ 64 → length rest ≡ 64 → parity ≡ xor_of old rest → xor_of (xor_of parity old) new ≡ xor_of new rest
small_bytes parity old rest new p q e =
    ap (λ bytes. xor_of (xor_of bytes old) new) e
    ∙ ap (λ bytes. xor_of bytes new) (xor_of-comm (xor_of old rest) old ∙ cancel old rest p q)
    ∙ xor_of-comm rest new

small_marks_by : (parity : Cell) (before : List Cell) (old : Cell) (later : List Cell) → parity.lost ≡ lost_from 0 (before ++ old ∷ later) → IsDataCell (length before) old →
    without_unit parity.lost (length before) ≡ with_bit (high before) 0 (high later) (length before)
small_marks_by parity before old later e (inl plain) =
    let unit = length before in
    ap (λ lost. without_unit lost unit) (marks_at parity before old later 0 e (mark_none old plain)) ∙ without_none (high before) (high later) unit (lost_below before)
small_marks_by parity before old later e (inr lost) =
    let unit = length before in
    ap (λ lost. without_unit lost unit) (marks_at parity before old later 1 e (mark_one unit old lost.0)) ∙ without_one (high before) (high later) unit (lost_below before)

pub small_sound : (parity : Cell) (before : List Cell) (old : Cell) (later : List Cell) (new : List ℕ) → AreBlocks (parity ∷ (before ++ old ∷ later)) → length new ≡ 64 → IsSound parity (before ++ old ∷ later) →
    IsSound (fold_small parity old new (length before)) (before ++ plain_cell new ∷ later)
small_sound parity before old later new bs p s =
    let front = AreBlocks-front before (old ∷ later) bs.1 in
    let back = AreBlocks-back before (old ∷ later) bs.1 in
    let rest = sum_of (before ++ later) in
    let long = length-sum_of (before ++ later) (AreBlocks-append before later front back.1) in
    let now = before ++ plain_cell new ∷ later in
    let blocks = AreBlocks-append before (plain_cell new ∷ later) front (p, back.1) in
    let acc = fold_small parity old new (length before) in
    let was = parity_sum parity (before ++ old ∷ later) bs s.sum ∙ sum_of-at before old later front back in
    let bytes = small_bytes parity.bytes old.bytes rest new back.0 long was in
    let wide = length-xor_of 64 (xor_of parity.bytes old.bytes) new (length-xor_of 64 parity.bytes old.bytes bs.0 back.0) p in
    let ds = data_at before old later s.cells in
    record {
      sum = sum_zero acc now (wide, blocks) (bytes ∙ sym (sum_of-at before (plain_cell new) later front (p, back.1)));
      marks = small_marks_by parity before old later s.marks ds.0 ∙ sym (high_at before (plain_cell new) later) ∙ sym (lost_all now);
      cells = AreData-append 0 (length before) before (plain_cell new ∷ later) (omega arith) (AreData-front 0 before (old ∷ later) s.cells) (inl refl, ds.1);
    }

-- The parity of all cells
or_mark : (acc unit : ℕ) (cell : Cell) → acc < 2 ^ unit → IsDataCell unit cell → bit_or acc cell.lost ≡ acc + mark cell * 2 ^ unit
or_mark acc unit cell p (inl plain) =
    let same : acc ≡ acc + 0 * 2 ^ unit = omega arith in
    ap (λ lost. bit_or acc lost) plain ∙ or_zero_r acc ∙ same ∙ ap (λ m. acc + m * 2 ^ unit) (sym (mark_none cell plain))
or_mark acc unit cell p (inr lost) =
    let once : 1 * 2 ^ unit ≡ 2 ^ unit = one-mul (2 ^ unit) in
    ap (λ lost. bit_or acc lost) (lost.0 ∙ sym once) ∙ or_comm acc (1 * 2 ^ unit) ∙ or_shifted 1 unit acc p ∙ add_comm (1 * 2 ^ unit) acc ∙ ap (λ m. acc + m * 2 ^ unit) (sym (mark_one unit cell lost.0))

lost_lt : (unit : ℕ) (cell : Cell) → IsDataCell unit cell → cell.lost < 2 ^ suc unit
lost_lt unit cell (inl plain) = rw plain (pow_pos (suc unit))
lost_lt unit cell (inr lost) = rw lost.0 (pow-lt {i = unit} {j = suc unit} (omega arith))

lt_next : (unit n : ℕ) → n < 2 ^ unit → n < 2 ^ suc unit
lt_next unit n p = let more = two-pow-succ unit in omega arith

next_mark : (acc m h p q : ℕ) → q ≡ p + p → (acc + m * p) + h * q ≡ acc + (m + 2 * h) * p
next_mark acc m h p q e = rw e (grind arith)

marks_run : (acc unit : ℕ) (cells : List Cell) → acc < 2 ^ unit → AreDataCells unit cells → fold marked acc cells ≡ acc + high cells * 2 ^ unit
marks_run acc unit [] p ds = omega arith
marks_run acc unit (cell ∷ cells) p ds =
    let below = or_lt (suc unit) acc cell.lost (lt_next unit acc p) (lost_lt unit cell ds.0) in
    marks_run (marked acc cell) (suc unit) cells below (at_start (unit + 1) (suc unit) cells (add-one unit) ds.1)
    ∙ ap (λ marks. marks + high cells * 2 ^ suc unit) (or_mark acc unit cell p ds.0)
    ∙ next_mark acc (mark cell) (high cells) (2 ^ unit) (2 ^ suc unit) (two-pow-succ unit)

pub marks_are : (cells : List Cell) → AreDataCells 0 cells → marks_of cells ≡ lost_from 0 cells
marks_are cells ds = marks_run 0 0 cells (omega arith) ds ∙ zero-add (high cells * 2 ^ 0) ∙ mul-one (high cells) ∙ sym (lost_all cells)

pub parity_blocks : (cells : List Cell) → AreBlocks cells → AreBlocks (parity_of cells ∷ cells)
parity_blocks cells bs = (ap length (bytes-parity_of cells) ∙ length-sum_of cells bs, bs)

pub parity_sound : (cells : List Cell) → AreBlocks cells → AreDataCells 0 cells → IsSound (parity_of cells) cells
parity_sound cells bs ds = record {
  sum = sum_zero (parity_of cells) cells (parity_blocks cells bs) (bytes-parity_of cells);
  marks = lost-parity_of cells ∙ marks_are cells ds;
  cells = ds;
}

-- A unit that is given up
abbrev pub lost_cell : ℕ → Cell
lost_cell unit = record { bytes = zeros; lost = 2 ^ unit }

gap_last : (acc h p q : ℕ) → q ≡ p + p → acc + h * q ≡ acc + (0 + 2 * h) * p
gap_last acc h p q e = rw e (grind arith)

gap_marks : (before later : List Cell) → AreDataCells 0 before → AreDataCells (length before + 1) later → marks_of (before ++ later) ≡ with_bit (high before) 0 (high later) (length before)
gap_marks before later ds es =
    let unit = length before in
    let low : marks_of before ≡ high before = marks_are before ds ∙ lost_all before in
    fold-append marked 0 before later
    ∙ ap (λ marks. fold marked marks later) low
    ∙ marks_run (high before) (suc unit) later (lt_next unit (high before) (lost_below before)) (at_start (unit + 1) (suc unit) later (add-one unit) es)
    ∙ gap_last (high before) (high later) (2 ^ unit) (2 ^ suc unit) (two-pow-succ unit)

pub lost_sound : (before later : List Cell) → AreBlocks (before ++ later) → AreDataCells 0 before → AreDataCells (length before + 1) later →
    IsSound (record (parity_of (before ++ later)) { lost = with_unit (parity_of (before ++ later)).lost (length before) }) (before ++ lost_cell (length before) ∷ later)
lost_sound before later bs ds es =
    let unit = length before in
    let present = before ++ later in
    let all = before ++ lost_cell unit ∷ later in
    let front = AreBlocks-front before later bs in
    let back : AreBlocks (lost_cell unit ∷ later) = (refl, AreBlocks-back before later bs) in
    let parity : Cell = record (parity_of present) { lost = with_unit (parity_of present).lost unit } in
    let bytes = bytes-parity_of present ∙ sym (zero_first (sum_of present) (length-sum_of present bs)) ∙ sym (sum_of-at before (lost_cell unit) later front back) in
    let one : mark (lost_cell unit) ≡ 1 = mark_one unit (lost_cell unit) refl in
    record {
      sum = sum_zero parity all ((parity_blocks present bs).0, AreBlocks-append before (lost_cell unit ∷ later) front back) bytes;
      marks =
          ap (λ lost. with_unit lost unit) (lost-parity_of present ∙ gap_marks before later ds es)
          ∙ with_none (high before) (high later) unit (lost_below before)
          ∙ ap (λ bit. with_bit (high before) bit (high later) unit) (sym one)
          ∙ sym (high_at before (lost_cell unit) later)
          ∙ sym (lost_all all);
      cells = AreData-append 0 unit before (lost_cell unit ∷ later) (omega arith) ds (inr (refl, refl), es);
    }
