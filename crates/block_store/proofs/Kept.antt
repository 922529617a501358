-- Blocks of which the first are kept and the others are zeros.
use Rattle.std.proofs.Common.{◌≡◌, ◌∙◌, ℕ, ◌+◌, ◌-◌, ◌<◌, ◌≤◌, List, [], ◌∷◌, ◌++◌, suc, zero, length, replicate, slice_set, refl, sym, ap, arith}
use Rattle.std.proofs.lemmas.List.{append_assoc, length-append, length-replicate, length-set, length_push, set-append_left, set-append_right}
use Rattle.raid_base.specs.Cells.{zeros}

-- xs, filled up with zeros to so many blocks
abbrev pub filled : List (List ℕ) → ℕ → List (List ℕ)
filled xs size = xs ++ replicate (size - length xs) zeros

-- a row below all blocks is below their number
pub row-below : (xs all : List (List ℕ)) (size row : ℕ) → length xs ≤ size → filled xs size ≡ all → row < length all → row < size
row-below xs all size row few is below =
    let count : length (filled xs size) ≡ length all = ap (λ (blocks : List (List ℕ)). length blocks) is in
    omega (arith, few, below, count, length-append xs (replicate (size - length xs) zeros), length-replicate (size - length xs) zeros)

pub kept-set : (xs : List (List ℕ)) (size row : ℕ) (block : List ℕ) → row < length xs →
    filled (slice_set xs row block) size ≡ slice_set (filled xs size) row block
kept-set xs size row block below =
    ap (λ (n : ℕ). slice_set xs row block ++ replicate (size - n) zeros) (length-set xs row block)
    ∙ sym (set-append_left xs (replicate (size - length xs) zeros) row block below)

set-zeros : (ahead rest size : ℕ) (block : List ℕ) → size ≡ suc (ahead + rest) →
    replicate ahead zeros ++ block ∷ replicate rest zeros ≡ slice_set (replicate size zeros) ahead block
set-zeros ahead rest zero block e = grind arith
set-zeros zero rest (suc size) block e =
    let same : rest ≡ size = omega (arith, e) in
    ap (λ (n : ℕ). block ∷ replicate n zeros) same
set-zeros (suc ahead) rest (suc size) block e =
    ap (λ (blocks : List (List ℕ)). zeros ∷ blocks) (set-zeros ahead rest size block (omega (arith, e)))

-- a block behind those that were kept
pub past-set : (xs more : List (List ℕ)) (size row : ℕ) (block : List ℕ) → length xs ≤ row → row < size → length more ≡ row →
    more ≡ xs ++ replicate (row - length xs) zeros →
    filled (more ++ block ∷ []) size ≡ slice_set (filled xs size) row block
past-set xs more size row block past below count is =
    let long : length (more ++ block ∷ []) ≡ suc row = length_push more block ∙ omega (arith, count) in
    let right : slice_set (filled xs size) row block ≡ xs ++ slice_set (replicate (size - length xs) zeros) (row - length xs) block =
    set-append_right xs (replicate (size - length xs) zeros) (length xs) row block refl past in
    let zeroed : replicate (row - length xs) zeros ++ block ∷ replicate (size - suc row) zeros ≡ slice_set (replicate (size - length xs) zeros) (row - length xs) block =
    set-zeros (row - length xs) (size - suc row) (size - length xs) block (omega (arith, past, below)) in
    let left : (more ++ block ∷ []) ++ replicate (size - suc row) zeros ≡ xs ++ (replicate (row - length xs) zeros ++ block ∷ replicate (size - suc row) zeros) =
    append_assoc more (block ∷ []) (replicate (size - suc row) zeros)
    ∙ ap (λ (front : List (List ℕ)). front ++ block ∷ replicate (size - suc row) zeros) is
    ∙ append_assoc xs (replicate (row - length xs) zeros) (block ∷ replicate (size - suc row) zeros) in
    ap (λ (n : ℕ). (more ++ block ∷ []) ++ replicate (size - n) zeros) long ∙ left ∙ ap (λ (blocks : List (List ℕ)). xs ++ blocks) zeroed ∙ sym right
