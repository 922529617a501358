-- How parities add up.
use Rattle.std.proofs.Common.{◌≡◌, ◌∙◌, ℕ, Bool, true, false, not, List, [], ◌∷◌, ◌++◌, map, filter, fold, bit_or, max, cond, refl, ap, sym, arith}
use Rattle.std.specs.Int.{bit_at}
use Rattle.std.specs.Int.Bits.{or_zero_r, or_zero_l}
use Rattle.std.proofs.lemmas.Nat.Bits.{bit_at_or, same_from_bits}
use Rattle.std.proofs.lemmas.Nat.{or_comm}
use Rattle.raid_base.specs.declared.cells.Cell.{Cell}
use Rattle.raid_base.specs.Cells.{zero_cell}
use Rattle.raid_xor.specs.Sums.{xor_of, sum_of}
use Rattle.raid_xor.specs.Laws.{AreBlocks}
use Rattle.raid_xor.proofs.XorLemmas.{added, swap, sum_of-cons, sum_of-append, AreBlocks-append}
use Rattle.raid_xor.specs.Parities.{fold_whole, parity_of}

-- a cell by its parts
abbrev pub cell_by : List ℕ → ℕ → Cell
cell_by bytes lost = record { bytes = bytes; lost = lost }

pub same_cell : (x y : Cell) → x.bytes ≡ y.bytes → x.lost ≡ y.lost → x ≡ y
same_cell x y p q = ap (λ bytes. cell_by bytes x.lost) p ∙ ap (λ lost. cell_by y.bytes lost) q

max_assoc : (a b c : ℕ) → max (max a b) c ≡ max a (max b c)
max_assoc a b c = omega arith

or_assoc : (a b c : ℕ) → bit_or (bit_or a b) c ≡ bit_or a (bit_or b c)
or_assoc a b c = same_from_bits (bit_or (bit_or a b) c) (bit_or a (bit_or b c)) (λ i.
    bit_at_or (bit_or a b) c i ∙ ap (λ n. max n (bit_at c i)) (bit_at_or a b i) ∙ max_assoc (bit_at a i) (bit_at b i) (bit_at c i)
    ∙ ap (λ n. max (bit_at a i) n) (sym (bit_at_or b c i)) ∙ sym (bit_at_or a (bit_or b c) i))

-- all marks of some cells
abbrev pub marked : ℕ → Cell → ℕ
marked marks cell = bit_or marks cell.lost

abbrev pub marks_of : List Cell → ℕ
marks_of cells = fold marked 0 cells

bytes-from : (acc : Cell) (cells : List Cell) → (fold fold_whole acc cells).bytes ≡ fold added acc.bytes cells
bytes-from acc [] = refl
bytes-from acc (cell ∷ cells) = bytes-from (fold_whole acc cell) cells

lost-from : (acc : Cell) (cells : List Cell) → (fold fold_whole acc cells).lost ≡ fold marked acc.lost cells
lost-from acc [] = refl
lost-from acc (cell ∷ cells) = lost-from (fold_whole acc cell) cells

pub bytes-parity_of : (cells : List Cell) → (parity_of cells).bytes ≡ sum_of cells
bytes-parity_of cells = bytes-from zero_cell cells

pub lost-parity_of : (cells : List Cell) → (parity_of cells).lost ≡ marks_of cells
lost-parity_of cells = lost-from zero_cell cells

pub marks_from : (acc : ℕ) (cells : List Cell) → fold marked acc cells ≡ bit_or acc (marks_of cells)
marks_from acc [] = sym (or_zero_r acc)
marks_from acc (cell ∷ cells) =
    marks_from (marked acc cell) cells
    ∙ or_assoc acc cell.lost (marks_of cells)
    ∙ ap (λ marks. bit_or acc (bit_or marks (marks_of cells))) (sym (or_zero_l cell.lost))
    ∙ ap (λ marks. bit_or acc marks) (sym (marks_from (marked 0 cell) cells))

pub marks_of-cons : (cell : Cell) (cells : List Cell) → marks_of (cell ∷ cells) ≡ bit_or cell.lost (marks_of cells)
marks_of-cons cell cells = marks_from (marked 0 cell) cells ∙ ap (λ marks. bit_or marks (marks_of cells)) (or_zero_l cell.lost)

pub marks_of-append : (xs ys : List Cell) → marks_of (xs ++ ys) ≡ bit_or (marks_of xs) (marks_of ys)
marks_of-append [] ys = sym (or_zero_l (marks_of ys))
marks_of-append (x ∷ xs) ys =
    marks_of-cons x (xs ++ ys)
    ∙ ap (λ marks. bit_or x.lost marks) (marks_of-append xs ys)
    ∙ sym (or_assoc x.lost (marks_of xs) (marks_of ys))
    ∙ ap (λ marks. bit_or marks (marks_of ys)) (sym (marks_of-cons x xs))

pub parity_of-append : (xs ys : List Cell) → AreBlocks xs → AreBlocks ys → parity_of (xs ++ ys) ≡ fold_whole (parity_of xs) (parity_of ys)
parity_of-append xs ys bs cs = same_cell (parity_of (xs ++ ys)) (fold_whole (parity_of xs) (parity_of ys))
    (bytes-parity_of (xs ++ ys) ∙ sum_of-append xs ys bs cs ∙ ap (λ bytes. xor_of bytes (sum_of ys)) (sym (bytes-parity_of xs)) ∙ ap (λ bytes. xor_of (parity_of xs).bytes bytes) (sym (bytes-parity_of ys)))
    (lost-parity_of (xs ++ ys) ∙ marks_of-append xs ys ∙ ap (λ marks. bit_or marks (marks_of ys)) (sym (lost-parity_of xs)) ∙ ap (λ marks. bit_or (parity_of xs).lost marks) (sym (lost-parity_of ys)))

pub parity_of-cons : (cell : Cell) (cells : List Cell) → AreBlocks (cell ∷ cells) → parity_of (cell ∷ cells) ≡ fold_whole cell (parity_of cells)
parity_of-cons cell cells bs = same_cell (parity_of (cell ∷ cells)) (fold_whole cell (parity_of cells))
    (bytes-parity_of (cell ∷ cells) ∙ sum_of-cons cell cells bs ∙ ap (λ bytes. xor_of cell.bytes bytes) (sym (bytes-parity_of cells)))
    (lost-parity_of (cell ∷ cells) ∙ marks_of-cons cell cells ∙ ap (λ marks. bit_or cell.lost marks) (sym (lost-parity_of cells)))

or_swap : (a b c : ℕ) → bit_or a (bit_or b c) ≡ bit_or b (bit_or a c)
or_swap a b c = sym (or_assoc a b c) ∙ ap (λ m. bit_or m c) (or_comm a b) ∙ or_assoc b a c

whole-swap : (x y z : Cell) → fold_whole x (fold_whole y z) ≡ fold_whole y (fold_whole x z)
whole-swap x y z = same_cell (fold_whole x (fold_whole y z)) (fold_whole y (fold_whole x z)) (swap x.bytes y.bytes z.bytes) (or_swap x.lost y.lost z.lost)

-- a cell among others may as well come first
pub parity_of-first : (xs : List Cell) (cell : Cell) (ys : List Cell) → AreBlocks xs → AreBlocks (cell ∷ ys) → parity_of (xs ++ cell ∷ ys) ≡ parity_of (cell ∷ (xs ++ ys))
parity_of-first [] cell ys bs cs = refl
parity_of-first (x ∷ xs) cell ys bs cs =
    let both = AreBlocks-append xs ys bs.1 cs.1 in
    parity_of-cons x (xs ++ cell ∷ ys) (bs.0, AreBlocks-append xs (cell ∷ ys) bs.1 cs)
    ∙ ap (λ parity. fold_whole x parity) (parity_of-first xs cell ys bs.1 cs ∙ parity_of-cons cell (xs ++ ys) (cs.0, both))
    ∙ whole-swap x cell (parity_of (xs ++ ys))
    ∙ ap (λ parity. fold_whole cell parity) (sym (parity_of-cons x (xs ++ ys) (bs.0, both)))
    ∙ sym (parity_of-cons cell (x ∷ (xs ++ ys)) (cs.0, (bs.0, both)))

AreBlocks-filter : (cell : ℕ → Cell) (chosen : ℕ → Bool) (units : List ℕ) → AreBlocks (map cell units) → AreBlocks (map cell (filter chosen units))
AreBlocks-filter cell chosen [] bs = tt
AreBlocks-filter cell chosen (u ∷ us) bs =
    elim (chosen u) as (λ b. AreBlocks (map cell (cond b (u ∷ filter chosen us) (filter chosen us)))) [ true ↦ (bs.0, AreBlocks-filter cell chosen us bs.1) | false ↦ AreBlocks-filter cell chosen us bs.1 ]

abbrev pub split : (ℕ → Cell) → (ℕ → Bool) → List ℕ → List Cell
split cell chosen units = map cell (filter chosen units) ++ map cell (filter (λ unit. not (chosen unit)) units)

pub AreBlocks-split : (cell : ℕ → Cell) (chosen : ℕ → Bool) (units : List ℕ) → AreBlocks (map cell units) → AreBlocks (split cell chosen units)
AreBlocks-split cell chosen units bs =
    AreBlocks-append (map cell (filter chosen units)) (map cell (filter (λ unit. not (chosen unit)) units))
    (AreBlocks-filter cell chosen units bs) (AreBlocks-filter cell (λ unit. not (chosen unit)) units bs)

split_step : (cell : ℕ → Cell) (chosen : ℕ → Bool) (u : ℕ) (us : List ℕ) (b : Bool) → chosen u ≡ b → AreBlocks (map cell (u ∷ us)) → parity_of (split cell chosen (u ∷ us)) ≡ fold_whole (cell u) (parity_of (split cell chosen us))
split_step cell chosen u us true e bs = rw e (parity_of-cons (cell u) (split cell chosen us) (bs.0, AreBlocks-split cell chosen us bs.1))
split_step cell chosen u us false e bs =
    rw e (parity_of-first (map cell (filter chosen us)) (cell u) (map cell (filter (λ unit. not (chosen unit)) us))
    (AreBlocks-filter cell chosen us bs.1) (bs.0, AreBlocks-filter cell (λ unit. not (chosen unit)) us bs.1)
    ∙ parity_of-cons (cell u) (split cell chosen us) (bs.0, AreBlocks-split cell chosen us bs.1))

pub order_free : (cell : ℕ → Cell) (chosen : ℕ → Bool) (units : List ℕ) → AreBlocks (map cell units) → parity_of (split cell chosen units) ≡ parity_of (map cell units)
order_free cell chosen [] bs = refl
order_free cell chosen (u ∷ us) bs =
    split_step cell chosen u us (chosen u) refl bs
    ∙ ap (λ parity. fold_whole (cell u) parity) (order_free cell chosen us bs.1)
    ∙ sym (parity_of-cons (cell u) (map cell us) bs)
