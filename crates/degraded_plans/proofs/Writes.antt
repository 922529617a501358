-- Whole writes of a row, one change after another.
use Rattle.std.proofs.Common.{◌≡◌, ◌∙◌, ℕ, zero, suc, ◌+◌, ◌<◌, List, [], ◌∷◌, ◌++◌, length, take, drop, slice_index_or, slice_set, refl, ap, sym, subst, add-one, arith}
use Rattle.std.proofs.lemmas.List.{length-set, length-take-le, get_or-set_other}
use Rattle.raid_base.specs.declared.cells.Cell.{Cell}
use Rattle.raid_base.specs.Cells.{zero_cell, plain_cell}
use Rattle.raid_xor.specs.Sums.{xor_of}
use Rattle.raid_xor.specs.Laws.{AreBlocks}
use Rattle.raid_xor.proofs.XorLemmas.{length-xor_of}
use Rattle.raid_xor.specs.Parities.{fold_small, parity_of}
use Rattle.degraded_plans.specs.Missing.{missing_of}
use Rattle.degraded_plans.specs.Rows.{IsSound}
use Rattle.degraded_plans.specs.Laws.{Change, changed, folded_small, AreChanges, Leaves, others, IsMade}
use Rattle.degraded_plans.proofs.SoundRows.{missing_is, small_sound, parity_sound, parity_blocks}

abbrev pub cell_at : List Cell → ℕ → Cell
cell_at cells unit = slice_index_or cells unit zero_cell

-- a list, split at one place
split : (cells : List Cell) (unit : ℕ) → unit < length cells → take unit cells ++ cell_at cells unit ∷ drop (suc unit) cells ≡ cells
split [] unit p = absurd (omega arith)
split (cell ∷ cells) zero p = refl
split (cell ∷ cells) (suc unit) p = ap (λ rest. cell ∷ rest) (split cells unit (omega arith))

set_split : (cells : List Cell) (unit : ℕ) (cell : Cell) → unit < length cells → take unit cells ++ cell ∷ drop (suc unit) cells ≡ slice_set cells unit cell
set_split [] unit new p = absurd (omega arith)
set_split (cell ∷ cells) zero new p = refl
set_split (cell ∷ cells) (suc unit) new p = ap (λ rest. cell ∷ rest) (set_split cells unit new (omega arith))

AreBlocks-at : (cells : List Cell) (unit : ℕ) → AreBlocks cells → length (cell_at cells unit).bytes ≡ 64
AreBlocks-at [] unit bs = refl
AreBlocks-at (cell ∷ cells) zero bs = bs.0
AreBlocks-at (cell ∷ cells) (suc unit) bs = AreBlocks-at cells unit bs.1

AreBlocks-set : (cells : List Cell) (unit : ℕ) (cell : Cell) → AreBlocks cells → length cell.bytes ≡ 64 → AreBlocks (slice_set cells unit cell)
AreBlocks-set [] unit new bs p = tt
AreBlocks-set (cell ∷ cells) zero new bs p = (p, bs.1)
AreBlocks-set (cell ∷ cells) (suc unit) new bs p = (bs.0, AreBlocks-set cells unit new bs.1 p)

-- One change
abbrev pub small : Cell → List Cell → Change → Cell
small parity cells change = fold_small parity (cell_at cells change.unit) change.block change.unit

abbrev pub once : List Cell → Change → List Cell
once cells change = slice_set cells change.unit (plain_cell change.block)

small_blocks : (parity : Cell) (cells : List Cell) (change : Change) → AreBlocks (parity ∷ cells) → length change.block ≡ 64 → AreBlocks (small parity cells change ∷ once cells change)
small_blocks parity cells change bs p =
    let old = cell_at cells change.unit in (
      length-xor_of 64 (xor_of parity.bytes old.bytes) change.block (length-xor_of 64 parity.bytes old.bytes bs.0 (AreBlocks-at cells change.unit bs.1)) p,
      AreBlocks-set cells change.unit (plain_cell change.block) bs.1 p,
    )

small_once : (parity : Cell) (cells : List Cell) (change : Change) → AreBlocks (parity ∷ cells) → change.unit < length cells → length change.block ≡ 64 → IsSound parity cells →
    IsSound (small parity cells change) (once cells change)
small_once parity cells change bs p q s =
    let unit = change.unit in
    let before = take unit cells in
    let later = drop (suc unit) cells in
    let old = cell_at cells unit in
    let parts = split cells unit p in
    let blocks : AreBlocks (parity ∷ (before ++ old ∷ later)) = rw parts bs in
    let sound : IsSound parity (before ++ old ∷ later) = rw parts s in
    let now = before ++ plain_cell change.block ∷ later in
    let P : ℕ → Type 0 = λ n. IsSound (fold_small parity old change.block n) now in
    let Q : List Cell → Type 0 = λ xs. IsSound (small parity cells change) xs in
    subst Q (set_split cells unit (plain_cell change.block) p)
    (subst P (length-take-le unit cells (omega arith)) (small_sound parity before old later change.block blocks q sound))

-- All changes
length-changed : (cells : List Cell) (changes : List Change) → length (changed cells changes) ≡ length cells
length-changed cells [] = refl
length-changed cells (change ∷ changes) = length-changed (once cells change) changes ∙ length-set cells change.unit (plain_cell change.block)

changes_after : (cells : List Cell) (change : Change) (changes : List Change) → AreChanges (length cells) changes → AreChanges (length (once cells change)) changes
changes_after cells change changes cs =
    let P : ℕ → Type 0 = λ n. AreChanges n changes in
    subst P (sym (length-set cells change.unit (plain_cell change.block))) cs

small_all_blocks : (parity : Cell) (cells : List Cell) (changes : List Change) → AreBlocks (parity ∷ cells) → AreChanges (length cells) changes →
    AreBlocks (folded_small parity cells changes ∷ changed cells changes)
small_all_blocks parity cells [] bs cs = bs
small_all_blocks parity cells (change ∷ changes) bs cs =
    small_all_blocks (small parity cells change) (once cells change) changes (small_blocks parity cells change bs cs.1) (changes_after cells change changes cs.2)

small_all : (parity : Cell) (cells : List Cell) (changes : List Change) → AreBlocks (parity ∷ cells) → AreChanges (length cells) changes → IsSound parity cells →
    IsSound (folded_small parity cells changes) (changed cells changes)
small_all parity cells [] bs cs s = s
small_all parity cells (change ∷ changes) bs cs s =
    small_all (small parity cells change) (once cells change) changes (small_blocks parity cells change bs cs.1) (changes_after cells change changes cs.2) (small_once parity cells change bs cs.0 cs.1 s)

whole_all : (parity : Cell) (cells : List Cell) (changes : List Change) → AreBlocks (parity ∷ cells) → AreChanges (length cells) changes → IsSound parity cells →
    IsSound (parity_of (changed cells changes)) (changed cells changes)
whole_all parity cells changes bs cs s =
    parity_sound (changed cells changes) (small_all_blocks parity cells changes bs cs).1 (small_all parity cells changes bs cs s).cells

pub writes_keep_sound : (parity : Cell) (cells : List Cell) (changes : List Change) → AreBlocks (parity ∷ cells) → AreChanges (length cells) changes → IsSound parity cells →
    IsSound (folded_small parity cells changes) (changed cells changes) × IsSound (parity_of (changed cells changes)) (changed cells changes)
writes_keep_sound parity cells changes bs cs s = (small_all parity cells changes bs cs s, whole_all parity cells changes bs cs s)

-- A missing unit
made_is : (parity : Cell) (cells : List Cell) (unit : ℕ) → AreBlocks (parity ∷ cells) → unit < length cells → IsSound parity cells →
    missing_of parity (take unit cells ++ drop (suc unit) cells) unit ≡ cell_at cells unit
made_is parity cells unit bs p s =
    let before = take unit cells in
    let later = drop (suc unit) cells in
    let cell = cell_at cells unit in
    let parts = split cells unit p in
    let blocks : AreBlocks (parity ∷ (before ++ cell ∷ later)) = rw parts bs in
    let sound : IsSound parity (before ++ cell ∷ later) = rw parts s in
    ap (λ n. missing_of parity (before ++ later) n) (sym (length-take-le unit cells (omega arith))) ∙ missing_is parity before cell later blocks sound

pub others_make : (parity : Cell) (cells : List Cell) (unit : ℕ) → AreBlocks (parity ∷ cells) → unit < length cells → IsSound parity cells → IsMade parity cells unit
others_make parity cells unit bs p s =
    let makes : missing_of parity (others unit cells) unit ≡ cell_at cells unit = ap (λ n. missing_of parity (take unit cells ++ drop n cells) unit) (add-one unit) ∙ made_is parity cells unit bs p s in
    let whole : take unit cells ++ missing_of parity (others unit cells) unit ∷ drop (unit + 1) cells ≡ cells =
    ap (λ cell. take unit cells ++ cell ∷ drop (unit + 1) cells) makes ∙ ap (λ n. take unit cells ++ cell_at cells unit ∷ drop n cells) (add-one unit) ∙ split cells unit p in
    let P : List Cell → Type 0 = λ xs. IsSound parity xs in
    record { makes = makes; sound = subst P (sym whole) s }

left_alone : (cells : List Cell) (changes : List Change) (unit : ℕ) → Leaves unit changes → cell_at (changed cells changes) unit ≡ cell_at cells unit
left_alone cells [] unit ls = refl
left_alone cells (change ∷ changes) unit ls =
    left_alone (once cells change) changes unit ls.1 ∙ get_or-set_other cells change.unit unit (plain_cell change.block) zero_cell (λ e. ls.0 (sym e))

in_changed : (cells : List Cell) (changes : List Change) (unit : ℕ) → unit < length cells → unit < length (changed cells changes)
in_changed cells changes unit p = rw (length-changed cells changes) p

pub writes_keep_made : (parity : Cell) (cells : List Cell) (changes : List Change) (unit : ℕ) →
    AreBlocks (parity ∷ cells) → AreChanges (length cells) changes → unit < length cells → IsSound parity cells →
    IsMade (folded_small parity cells changes) (changed cells changes) unit
    × IsMade (parity_of (changed cells changes)) (changed cells changes) unit
    × (Leaves unit changes → cell_at (changed cells changes) unit ≡ cell_at cells unit)
writes_keep_made parity cells changes unit bs cs p s =
    let blocks = small_all_blocks parity cells changes bs cs in
    let q = in_changed cells changes unit p in (
      others_make (folded_small parity cells changes) (changed cells changes) unit blocks q (small_all parity cells changes bs cs s),
      others_make (parity_of (changed cells changes)) (changed cells changes) unit (parity_blocks (changed cells changes) blocks.1) q (whole_all parity cells changes bs cs s),
      left_alone cells changes unit,
    )
