-- Exclusive-or on lists of bytes, and sums of cells.
use Rattle.std.proofs.Common.{◌≡◌, ◌∙◌, ℕ, ◌<◌, ◌^◌, zero, suc, List, [], ◌∷◌, ◌++◌, length, replicate, fold, bit_xor, refl, ap, sym, arith}
use Rattle.std.specs.Int.Bits.{xor_assoc, xor_self, xor_zero_r}
use Rattle.std.specs.List.{AllByRecursion}
use Rattle.std.proofs.lemmas.Nat.{xor_comm, xor_of_8}
use Rattle.raid_base.specs.declared.cells.Cell.{Cell}
use Rattle.raid_base.specs.Cells.{zeros}
use Rattle.raid_xor.specs.Sums.{xor_of, sum_of}
use Rattle.raid_xor.specs.Laws.{AreBlocks}

pub xor_of-comm : (xs ys : List ℕ) → xor_of xs ys ≡ xor_of ys xs
xor_of-comm [] [] = refl
xor_of-comm [] (y ∷ ys) = refl
xor_of-comm (x ∷ xs) [] = refl
xor_of-comm (x ∷ xs) (y ∷ ys) = ap (λ b. b ∷ xor_of xs ys) (xor_comm x y) ∙ ap (λ bs. bit_xor y x ∷ bs) (xor_of-comm xs ys)

pub xor_of-assoc : (xs ys zs : List ℕ) → xor_of (xor_of xs ys) zs ≡ xor_of xs (xor_of ys zs)
xor_of-assoc [] ys zs = refl
xor_of-assoc (x ∷ xs) [] zs = refl
xor_of-assoc (x ∷ xs) (y ∷ ys) [] = refl
xor_of-assoc (x ∷ xs) (y ∷ ys) (z ∷ zs) =
    ap (λ b. b ∷ xor_of (xor_of xs ys) zs) (xor_assoc x y z) ∙ ap (λ bs. bit_xor x (bit_xor y z) ∷ bs) (xor_of-assoc xs ys zs)

pub xor_of-zero : (n : ℕ) (xs : List ℕ) → length xs ≡ n → xor_of xs (replicate n 0) ≡ xs
xor_of-zero zero [] e = refl
xor_of-zero zero (x ∷ xs) e = absurd (omega arith)
xor_of-zero (suc n) [] e = absurd (omega arith)
xor_of-zero (suc n) (x ∷ xs) e = ap (λ b. b ∷ xor_of xs (replicate n 0)) (xor_zero_r x) ∙ ap (λ bs. x ∷ bs) (xor_of-zero n xs (omega arith))

pub xor_of-self : (n : ℕ) (xs : List ℕ) → length xs ≡ n → xor_of xs xs ≡ replicate n 0
xor_of-self zero [] e = refl
xor_of-self zero (x ∷ xs) e = absurd (omega arith)
xor_of-self (suc n) [] e = absurd (omega arith)
xor_of-self (suc n) (x ∷ xs) e = ap (λ b. b ∷ xor_of xs xs) (xor_self x) ∙ ap (λ bs. 0 ∷ bs) (xor_of-self n xs (omega arith))

pub length-xor_of : (n : ℕ) (xs ys : List ℕ) → length xs ≡ n → length ys ≡ n → length (xor_of xs ys) ≡ n
length-xor_of n [] ys e f = e
length-xor_of n (x ∷ xs) [] e f = absurd (omega arith)
length-xor_of zero (x ∷ xs) (y ∷ ys) e f = absurd (omega arith)
length-xor_of (suc n) (x ∷ xs) (y ∷ ys) e f =
    let more = length-xor_of n xs ys (omega arith) (omega arith) in
    omega arith

pub bytes-xor_of : (xs ys : List ℕ) → AllByRecursion (λ (byte : ℕ). byte < 2 ^ 8) xs → AllByRecursion (λ (byte : ℕ). byte < 2 ^ 8) ys → AllByRecursion (λ (byte : ℕ). byte < 2 ^ 8) (xor_of xs ys)
bytes-xor_of [] ys p q = tt
bytes-xor_of (x ∷ xs) [] p q = tt
bytes-xor_of (x ∷ xs) (y ∷ ys) p q = (xor_of_8 x y p.0 q.0, bytes-xor_of xs ys p.1 q.1)

-- blocks
pub zero_last : (xs : List ℕ) → length xs ≡ 64 → xor_of xs zeros ≡ xs
zero_last xs e = xor_of-zero 64 xs e

pub zero_first : (xs : List ℕ) → length xs ≡ 64 → xor_of zeros xs ≡ xs
zero_first xs e = xor_of-comm zeros xs ∙ zero_last xs e

pub itself : (xs : List ℕ) → length xs ≡ 64 → xor_of xs xs ≡ zeros
itself xs e = xor_of-self 64 xs e

-- a block taken twice falls away
pub cancel : (xs ys : List ℕ) → length xs ≡ 64 → length ys ≡ 64 → xor_of xs (xor_of xs ys) ≡ ys
cancel xs ys e f = sym (xor_of-assoc xs xs ys) ∙ ap (λ zs. xor_of zs ys) (itself xs e) ∙ zero_first ys f

pub swap : (xs ys zs : List ℕ) → xor_of xs (xor_of ys zs) ≡ xor_of ys (xor_of xs zs)
swap xs ys zs = sym (xor_of-assoc xs ys zs) ∙ ap (λ ws. xor_of ws zs) (xor_of-comm xs ys) ∙ xor_of-assoc ys xs zs

-- blocks that sum up to zeros are one block
pub same_from_zero : (xs ys : List ℕ) → length xs ≡ 64 → length ys ≡ 64 → xor_of xs ys ≡ zeros → xs ≡ ys
same_from_zero xs ys e f is =
    sym (cancel ys xs f e) ∙ ap (λ zs. xor_of ys zs) (xor_of-comm ys xs ∙ is) ∙ zero_last ys f

pub AreBlocks-append : (xs ys : List Cell) → AreBlocks xs → AreBlocks ys → AreBlocks (xs ++ ys)
AreBlocks-append [] ys bs cs = cs
AreBlocks-append (x ∷ xs) ys bs cs = (bs.0, AreBlocks-append xs ys bs.1 cs)

-- sums
abbrev pub added : List ℕ → Cell → List ℕ
added sum cell = xor_of sum cell.bytes

pub sum_from : (acc : List ℕ) (cells : List Cell) → length acc ≡ 64 → AreBlocks cells → fold added acc cells ≡ xor_of acc (sum_of cells)
sum_from acc [] e bs = sym (zero_last acc e)
sum_from acc (cell ∷ cells) e bs =
    sum_from (added acc cell) cells (length-xor_of 64 acc cell.bytes e bs.0) bs.1
    ∙ xor_of-assoc acc cell.bytes (sum_of cells)
    ∙ ap (λ bytes. xor_of acc (xor_of bytes (sum_of cells))) (sym (zero_first cell.bytes bs.0))
    ∙ ap (λ bytes. xor_of acc bytes) (sym (sum_from (added zeros cell) cells (length-xor_of 64 zeros cell.bytes refl bs.0) bs.1))

pub sum_of-cons : (cell : Cell) (cells : List Cell) → AreBlocks (cell ∷ cells) → sum_of (cell ∷ cells) ≡ xor_of cell.bytes (sum_of cells)
sum_of-cons cell cells bs =
    sum_from (added zeros cell) cells (length-xor_of 64 zeros cell.bytes refl bs.0) bs.1
    ∙ ap (λ bytes. xor_of bytes (sum_of cells)) (zero_first cell.bytes bs.0)

pub length-sum_of : (cells : List Cell) → AreBlocks cells → length (sum_of cells) ≡ 64
length-sum_of [] bs = refl
length-sum_of (cell ∷ cells) bs =
    ap length (sum_of-cons cell cells bs) ∙ length-xor_of 64 cell.bytes (sum_of cells) bs.0 (length-sum_of cells bs.1)

pub sum_of-append : (xs ys : List Cell) → AreBlocks xs → AreBlocks ys → sum_of (xs ++ ys) ≡ xor_of (sum_of xs) (sum_of ys)
sum_of-append [] ys bs cs = sym (zero_first (sum_of ys) (length-sum_of ys cs))
sum_of-append (x ∷ xs) ys bs cs =
    sum_of-cons x (xs ++ ys) (bs.0, AreBlocks-append xs ys bs.1 cs)
    ∙ ap (λ bytes. xor_of x.bytes bytes) (sum_of-append xs ys bs.1 cs)
    ∙ sym (xor_of-assoc x.bytes (sum_of xs) (sum_of ys))
    ∙ ap (λ bytes. xor_of bytes (sum_of ys)) (sym (sum_of-cons x xs bs))
