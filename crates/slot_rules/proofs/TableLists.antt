-- Slots and their blocks, row by row.
use Rattle.std.proofs.Common.{◌≡◌, ℕ, zero, suc, ◌<◌, List, [], ◌∷◌, length, map, replicate, take, slice_index_or, slice_set, refl, ap, ◌∙◌, arith}
use Rattle.raid_base.specs.declared.numbers.Number.{Number}
use Rattle.raid_base.specs.Cells.{zeros}
use Rattle.slot_rules.specs.Slots.{Slot, first_slot, bare_slot}
use Rattle.slot_rules.specs.Tables.{Kept, with_block, slots_with, first_kept, bare_kept}

pub slots-length : (slots : List Kept) (blocks : List (List ℕ)) → length (slots_with slots blocks) ≡ length slots
slots-length [] blocks = refl
slots-length (slot ∷ slots) [] = ap suc (slots-length slots [])
slots-length (slot ∷ slots) (block ∷ blocks) = ap suc (slots-length slots blocks)

nothing_there : (row : ℕ) → slice_index_or {A = List ℕ} [] row [] ≡ []
nothing_there zero = refl
nothing_there (suc row) = refl

-- the slot of a row, with its block
pub slot-there : (slots : List Kept) (blocks : List (List ℕ)) (row : ℕ) (d : Slot) (e : Kept) → row < length slots →
    slice_index_or (slots_with slots blocks) row d ≡ with_block (slice_index_or slots row e) (slice_index_or blocks row [])
slot-there [] blocks row d e l = absurd (omega arith)
slot-there (slot ∷ slots) [] zero d e l = refl
slot-there (slot ∷ slots) [] (suc row) d e l = slot-there slots [] row d e (omega arith) ∙ ap (λ b. with_block (slice_index_or slots row e) b) (nothing_there row)
slot-there (slot ∷ slots) (block ∷ blocks) zero d e l = refl
slot-there (slot ∷ slots) (block ∷ blocks) (suc row) d e l = slot-there slots blocks row d e (omega arith)

-- a row with another slot and another block
pub slots-set : (slots : List Kept) (blocks : List (List ℕ)) (row : ℕ) (slot : Kept) (block : List ℕ) → row < length slots → row < length blocks →
    slots_with (slice_set slots row slot) (slice_set blocks row block) ≡ slice_set (slots_with slots blocks) row (with_block slot block)
slots-set [] blocks row slot block l k = absurd (omega arith)
slots-set (s ∷ slots) [] row slot block l k = absurd (omega arith)
slots-set (s ∷ slots) (b ∷ blocks) zero slot block l k = refl
slots-set (s ∷ slots) (b ∷ blocks) (suc row) slot block l k = ap (λ t. with_block s b ∷ t) (slots-set slots blocks row slot block (omega arith) (omega arith))

pub slots-bare : (n : Number) (slots : List Kept) (blocks : List (List ℕ)) →
    slots_with (map (λ _. bare_kept n) slots) blocks ≡ map (λ _. bare_slot n) (slots_with slots blocks)
slots-bare n [] blocks = refl
slots-bare n (slot ∷ slots) [] = ap (λ t. bare_slot n ∷ t) (slots-bare n slots [])
slots-bare n (slot ∷ slots) (block ∷ blocks) = ap (λ t. bare_slot n ∷ t) (slots-bare n slots blocks)

slots-first_more : (n : ℕ) (block : List ℕ) (blocks : List (List ℕ)) → block ≡ zeros → slots_with (replicate n first_kept) blocks ≡ replicate n first_slot →
    slots_with (replicate (suc n) first_kept) (block ∷ blocks) ≡ replicate (suc n) first_slot
slots-first_more n block blocks z rest =
    ap (λ (b : List ℕ). with_block first_kept b ∷ slots_with (replicate n first_kept) blocks) z ∙ ap (λ t. first_slot ∷ t) rest

-- the slots at the start, where the first blocks are zeros
pub slots-first : (n : ℕ) (blocks : List (List ℕ)) → take n blocks ≡ replicate n zeros → slots_with (replicate n first_kept) blocks ≡ replicate n first_slot
slots-first zero blocks e = refl
slots-first (suc n) [] e = absurd (let bad : [] ≡ zeros ∷ replicate n zeros = e in cc)
slots-first (suc n) (block ∷ blocks) e =
    let all : block ∷ take n blocks ≡ zeros ∷ replicate n zeros = e in
    let first : block ≡ zeros = cc in
    let rest : take n blocks ≡ replicate n zeros = cc in
    slots-first_more n block blocks first (slots-first n blocks rest)

-- inside a list the value for outside doesn't matter
pub read-own : {X : Type 0} (xs : List X) (row : ℕ) (d e : X) → row < length xs → slice_index_or xs row d ≡ slice_index_or xs row e
read-own [] row d e l = absurd (omega arith)
read-own (x ∷ xs) zero d e l = refl
read-own (x ∷ xs) (suc row) d e l = read-own xs row d e (omega arith)
