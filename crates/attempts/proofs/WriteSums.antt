-- The parity of a row whose units take blocks, from the cells that a write was shown.
use Rattle.std.proofs.Common.{◌≡◌, ◌≢◌, refl, sym, ap, subst, ◌∙◌, ℕ, zero, suc, ◌+◌, ◌-◌, ◌<◌, ◌≤◌, ◌==◌, Bool, true, false, cond, not, List, [], ◌∷◌, ◌++◌, Option, Some, None, IfSome, map, filter, length, take, drop, slice_index_or, slice_set, unwrap_or, add-one, arith}
use Rattle.std.specs.List.{AllByRecursion, range_with_len}
use Rattle.std.proofs.Math.Seq.{drop-cons}
use Rattle.std.proofs.lemmas.Bool.{cond-true, cond-false, eq-eqb, ne_eqb}
use Rattle.std.proofs.lemmas.List.{length-set, get_or-set_other, get_or-set_same, nil_from_length}
use Rattle.raid_base.specs.declared.cells.Cell.{Cell}
use Rattle.raid_base.specs.declared.messages.Grant.{Grant}
use Rattle.raid_base.specs.declared.jobs.RowPart.{RowPart}
use Rattle.raid_base.specs.Cells.{zeros, zero_cell, plain_cell, has_unit}
use Rattle.raid_xor.specs.Laws.{AreBlocks}
use Rattle.raid_xor.proofs.XorLemmas.{length-xor_of}
use Rattle.stripe_layout.specs.Placement.{units, units_in, units_out}
use Rattle.virtual_objects.specs.Objects.{rank}
use Rattle.virtual_objects.specs.RowParts.{IsPart}
use Rattle.raid_xor.specs.Sums.{xor_of}
use Rattle.raid_xor.specs.Parities.{fold_small, parity_of}
use Rattle.raid_xor.proofs.Parities.{order_free}
use Rattle.degraded_plans.specs.Rows.{IsSound}
use Rattle.degraded_plans.specs.Laws.{Change, changed, folded_small, folded_from, AreChanges, AreApart, Leaves, cell_of}
use Rattle.degraded_plans.proofs.SoundRows.{parity_blocks}
use Rattle.degraded_plans.proofs.Writes.{writes_keep_sound}
use Rattle.degraded_plans.proofs.RowUnits.{old_serve, by_units}
use Rattle.attempts.specs.Taking.{Access, lacks}
use Rattle.attempts.specs.Reading.{cells_in}
use Rattle.attempts.specs.Puts.{block_at, folded}
use Rattle.attempts.specs.Sound.{part_changes}
use Rattle.attempts.proofs.RoomLemmas.{both-units}
use Rattle.attempts.proofs.PhaseLemmas.{all-weaken}
use Rattle.attempts.proofs.SoundLemmas.{all-filter, units-all, one-parity}

-- Lists
all-pass : (test : ℕ → Bool) (us : List ℕ) → AllByRecursion (λ u. test u ≡ true) (filter test us)
all-pass test [] = tt
all-pass test (u ∷ us) = one (test u) refl (all-pass test us) where
  one : (b : Bool) → test u ≡ b → AllByRecursion (λ u. test u ≡ true) (filter test us) → AllByRecursion (λ u. test u ≡ true) (cond b (u ∷ filter test us) (filter test us))
  one true e rest = (e, rest)
  one false e rest = rest

range-all : (P : ℕ → Type 0) (first count : ℕ) → ((k : ℕ) → first ≤ k → k < first + count → P k) → AllByRecursion P (range_with_len first count)
range-all P first zero h = tt
range-all P first (suc count) h = (h first (omega arith) (omega arith), range-all P (first + 1) count (λ k le lt. h k (omega arith) (omega arith)))

-- no number is one of those after it
abbrev pub AreDistinct : List ℕ → Type 0
AreDistinct [] = Unit {0}
AreDistinct (u ∷ us) = AllByRecursion (λ v. v ≢ u) us × AreDistinct us

distinct-kept : (test : ℕ → Bool) (us : List ℕ) → AreDistinct us → AreDistinct (filter test us)
distinct-kept test [] d = tt
distinct-kept test (u ∷ us) d = one (test u) (distinct-kept test us d.1) where
  one : (b : Bool) → AreDistinct (filter test us) → AreDistinct (cond b (u ∷ filter test us) (filter test us))
  one true rest = (all-filter (λ v. v ≢ u) test us d.0, rest)
  one false rest = rest

range-distinct : (first count : ℕ) → AreDistinct (range_with_len first count)
range-distinct first zero = tt
range-distinct first (suc count) = (range-all (λ v. v ≢ first) (first + 1) count (λ k le lt e. omega arith), range-distinct (first + 1) count)

same-map : {X : Type 0} (f g : ℕ → X) (us : List ℕ) → AllByRecursion (λ u. f u ≡ g u) us → map f us ≡ map g us
same-map f g [] all = refl
same-map f g (u ∷ us) all = ap (λ x. x ∷ map f us) all.0 ∙ ap (λ xs. g u ∷ xs) (same-map f g us all.1)

pub all-both : (P Q R : ℕ → Type 0) → ((u : ℕ) → P u → Q u → R u) → (us : List ℕ) → AllByRecursion P us → AllByRecursion Q us → AllByRecursion R us
all-both P Q R h [] p q = tt
all-both P Q R h (u ∷ us) p q = (h u p.0 q.0, all-both P Q R h us p.1 q.1)

blocks-set : (cells : List Cell) (u : ℕ) (cell : Cell) → length cell.bytes ≡ 64 → AreBlocks cells → AreBlocks (slice_set cells u cell)
blocks-set [] u cell long bs = tt
blocks-set (old ∷ cells) zero cell long bs = (long, bs.1)
blocks-set (old ∷ cells) (suc u) cell long bs = (bs.0, blocks-set cells u cell long bs.1)

-- Changes of some units
module _ (block : ℕ → List ℕ) where
  abbrev change_by : ℕ → Change
  change_by u = record { unit = u; block = block u }

  abbrev changes_by : List ℕ → List Change
  changes_by us = map change_by us

  are-changes : (count : ℕ) → ((u : ℕ) → length (block u) ≡ 64) → (us : List ℕ) → AllByRecursion (λ u. u < count) us → AreChanges count (changes_by us)
  are-changes count long [] below = tt
  are-changes count long (u ∷ us) below = (below.0, long u, are-changes count long us below.1)

  leaves : (u : ℕ) (us : List ℕ) → AllByRecursion (λ v. v ≢ u) us → Leaves u (changes_by us)
  leaves u [] all = tt
  leaves u (v ∷ us) all = (all.0, leaves u us all.1)

  are-apart : (us : List ℕ) → AreDistinct us → AreApart (changes_by us)
  are-apart [] d = tt
  are-apart (u ∷ us) d = (leaves u us d.0, are-apart us d.1)

  abbrev with_block : List Cell → ℕ → List Cell
  with_block cells u = slice_set cells u (plain_cell (block u))

  pub length-changed : (cells : List Cell) (us : List ℕ) → length (changed cells (changes_by us)) ≡ length cells
  length-changed cells [] = refl
  length-changed cells (u ∷ us) = length-changed (with_block cells u) us ∙ length-set cells u (plain_cell (block u))

  -- a unit that none is for keeps its cell
  kept-cell : (cells : List Cell) (us : List ℕ) (u : ℕ) → AllByRecursion (λ v. v ≢ u) us → cell_of (changed cells (changes_by us)) u ≡ cell_of cells u
  kept-cell cells [] u all = refl
  kept-cell cells (v ∷ us) u all =
      kept-cell (with_block cells v) us u all.1 ∙ get_or-set_other cells v u (plain_cell (block v)) zero_cell (λ e. all.0 (sym e))

  -- and each other takes its block
  taken-cells : (cells : List Cell) (us : List ℕ) → AreDistinct us → AllByRecursion (λ u. u < length cells) us
      → AllByRecursion (λ u. cell_of (changed cells (changes_by us)) u ≡ plain_cell (block u)) us
  taken-cells cells [] d below = tt
  taken-cells cells (u ∷ us) d below = (
    kept-cell (with_block cells u) us u d.0 ∙ get_or-set_same cells u (plain_cell (block u)) zero_cell below.0,
    taken-cells (with_block cells u) us d.1 (subst (λ (n : ℕ). AllByRecursion (λ u. u < n) us) (sym (length-set cells u (plain_cell (block u)))) below.1),
  )

  pub changed-blocks : (cells : List Cell) (us : List ℕ) → ((u : ℕ) → length (block u) ≡ 64) → AreBlocks cells → AreBlocks (changed cells (changes_by us))
  changed-blocks cells [] long bs = bs
  changed-blocks cells (u ∷ us) long bs = changed-blocks (with_block cells u) us long (blocks-set cells u (plain_cell (block u)) (long u) bs)

  -- the parity stays a block
  block-at-long : (cells : List Cell) (u : ℕ) → AreBlocks cells → length (cell_of cells u).bytes ≡ 64
  block-at-long [] u bs = refl
  block-at-long (cell ∷ cells) zero bs = bs.0
  block-at-long (cell ∷ cells) (suc u) bs = block-at-long cells u bs.1

  folded-blocks : (parity : Cell) (cells : List Cell) (us : List ℕ) → length parity.bytes ≡ 64 → AreBlocks cells → ((u : ℕ) → length (block u) ≡ 64)
      → length (folded_small parity cells (changes_by us)).bytes ≡ 64
  folded-blocks parity cells [] e bs long = e
  folded-blocks parity cells (u ∷ us) e bs long =
      let old : Cell = cell_of cells u in
      folded-blocks (fold_small parity old (block u) u) (with_block cells u) us
      (length-xor_of 64 (xor_of parity.bytes old.bytes) (block u) (length-xor_of 64 parity.bytes old.bytes e (block-at-long cells u bs)) (long u))
      (blocks-set cells u (plain_cell (block u)) (long u) bs) long

-- the blocks of distinct units, by their places, are those from one place on
by-rank : (xs : List (List ℕ)) (at : ℕ) (us : List ℕ) → AreDistinct us → at + length us ≤ length xs
    → map (λ u. slice_index_or xs (at + rank u us) zeros) us ≡ take (length us) (drop at xs)
by-rank xs at [] d room = refl
by-rank xs at (u ∷ us) d room =
    let here : at < length xs = omega arith in
    let head : slice_index_or xs (at + rank u (u ∷ us)) zeros ≡ slice_index_or xs at zeros = ap (λ (k : ℕ). slice_index_or xs k zeros) (same-rank u) in
    let later : map (λ v. slice_index_or xs (at + rank v (u ∷ us)) zeros) us ≡ map (λ v. slice_index_or xs (at + 1 + rank v us) zeros) us =
    same-map (λ v. slice_index_or xs (at + rank v (u ∷ us)) zeros) (λ v. slice_index_or xs (at + 1 + rank v us) zeros) us (next us d.0) in
    ap (λ x. x ∷ map (λ v. slice_index_or xs (at + rank v (u ∷ us)) zeros) us) head
    ∙ ap (λ ys. slice_index_or xs at zeros ∷ ys) (later ∙ by-rank xs (at + 1) us d.1 (omega arith))
    ∙ ap (λ (k : ℕ). slice_index_or xs at zeros ∷ take (length us) (drop k xs)) (add-one at)
    ∙ ap (λ ys. take (suc (length us)) ys) (sym (drop-cons xs at zeros here)) where
      same-rank : (u : ℕ) → at + rank u (u ∷ us) ≡ at
      same-rank u =
          let e : rank u (u ∷ us) ≡ 0 = cond-true (u == u) 0 (rank u us + 1) (eq-eqb u u refl) in
          omega arith

      next : (vs : List ℕ) → AllByRecursion (λ v. v ≢ u) vs → AllByRecursion (λ v. slice_index_or xs (at + rank v (u ∷ us)) zeros ≡ slice_index_or xs (at + 1 + rank v us) zeros) vs
      next [] all = tt
      next (v ∷ vs) all = (ap (λ (k : ℕ). slice_index_or xs k zeros) (one v all.0), next vs all.1) where
        one : (v : ℕ) → v ≢ u → at + rank v (u ∷ us) ≡ at + 1 + rank v us
        one v other =
            let e : rank v (u ∷ us) ≡ rank v us + 1 = cond-false (u == v) 0 (rank v us + 1) (ne_eqb u v (λ same. other (sym same))) in
            omega arith

-- Grants of some units in turn: what is said of each, and the units that are left
abbrev pub Filled : (ℕ → Option Grant → Type 0) → List ℕ → List (Option Grant) → List ℕ → Type 0
Filled P us [] left = us ≡ left
Filled P [] (o ∷ os) left = ⊥
Filled P (u ∷ us) (o ∷ os) left = P u o × Filled P us os left

module _ (P : ℕ → Option Grant → Type 0) where
  pub filled-more : (us : List ℕ) (os : List (Option Grant)) (o : Option Grant) (v : ℕ) (vs : List ℕ) → Filled P us os (v ∷ vs) → P v o → Filled P us (os ++ o ∷ []) vs
  filled-more [] [] o v vs f p = absurd (cc)
  filled-more [] (x ∷ os) o v vs f p = absurd f
  filled-more (u ∷ us) [] o v vs f p = (let e : v ≡ u = cc in subst (λ (u : ℕ). P u o) e p, cc)
  filled-more (u ∷ us) (x ∷ os) o v vs f p = (f.0, filled-more us os o v vs f.1 p)

pub filled-weaken : (P Q : ℕ → Option Grant → Type 0) → ((u : ℕ) (o : Option Grant) → P u o → Q u o) → (us : List ℕ) (os : List (Option Grant)) (left : List ℕ) → Filled P us os left → Filled Q us os left
filled-weaken P Q h us [] left f = f
filled-weaken P Q h [] (o ∷ os) left f = absurd f
filled-weaken P Q h (u ∷ us) (o ∷ os) left f = (h u o f.0, filled-weaken P Q h us os left f.1)

-- the cell of a unit is granted, or nothing is
abbrev pub Shown : (ℕ → Cell) → ℕ → Option Grant → Type 0
Shown cell u o = IfSome o (λ (grant : Grant). grant.cell ≡ Some (cell u))

abbrev pub IsGiven : Cell → Option Grant → Type 0
IsGiven cell None = ⊥
IsGiven cell (Some grant) = grant.cell ≡ Some cell

abbrev pub Given : (ℕ → Cell) → ℕ → Option Grant → Type 0
Given cell u o = IsGiven (cell u) o

pub all-given : (cell : ℕ → Cell) (us : List ℕ) (os : List (Option Grant)) → Filled (Shown cell) us os [] → lacks os ≡ false → Filled (Given cell) us os []
all-given cell us [] f none = f
all-given cell [] (o ∷ os) f none = absurd f
all-given cell (u ∷ us) (Some grant ∷ os) f none = (f.0, all-given cell us os f.1 none)
all-given cell (u ∷ us) (None ∷ os) f none = absurd (cc)

pub given-lacks : (cell : ℕ → Cell) (us : List ℕ) (os : List (Option Grant)) (left : List ℕ) → Filled (Given cell) us os left → lacks os ≡ false
given-lacks cell us [] left f = refl
given-lacks cell [] (o ∷ os) left f = absurd f
given-lacks cell (u ∷ us) (Some grant ∷ os) left f = given-lacks cell us os left f.1
given-lacks cell (u ∷ us) (None ∷ os) left f = absurd f.0

given-cells : (cell : ℕ → Cell) (us : List ℕ) (os : List (Option Grant)) → Filled (Given cell) us os [] → cells_in os ≡ map cell us
given-cells cell us [] f = ap (λ vs. map cell vs) (sym f)
given-cells cell [] (o ∷ os) f = absurd f
given-cells cell (u ∷ us) (Some grant ∷ os) f =
    ap (λ (o : Option Cell). unwrap_or o zero_cell ∷ cells_in os) f.0 ∙ ap (λ cells. cell u ∷ cells) (given-cells cell us os f.1)
given-cells cell (u ∷ us) (None ∷ os) f = absurd f.0

pub lacks-more : (os : List (Option Grant)) → lacks (os ++ None ∷ []) ≡ true
lacks-more [] = refl
lacks-more (None ∷ os) = refl
lacks-more (Some grant ∷ os) = lacks-more os

pub lacks-same : (os : List (Option Grant)) (grant : Grant) → lacks (os ++ Some grant ∷ []) ≡ lacks os
lacks-same [] grant = refl
lacks-same (None ∷ os) grant = refl
lacks-same (Some other ∷ os) grant = lacks-same os grant

-- the small way
small-run : (block : ℕ → List ℕ) (cells : List Cell) (us : List ℕ) (os : List (Option Grant)) (parity : Cell) → Filled (Given (cell_of cells)) us os []
    → folded parity us os (map block us) ≡ folded_from parity cells (changes_by block us)
small-run block cells [] [] parity f = refl
small-run block cells (u ∷ us) [] parity f = absurd (cc)
small-run block cells [] (o ∷ os) parity f = absurd f
small-run block cells (u ∷ us) (Some grant ∷ os) parity f =
    ap (λ (o : Option Cell). folded (fold_small parity (unwrap_or o zero_cell) (block u) u) us os (map block us)) f.0
    ∙ small-run block cells us os (fold_small parity (cell_of cells u) (block u) u) f.1
small-run block cells (u ∷ us) (None ∷ os) parity f = absurd f.0

-- the units of a row that pass a test
pub units-known : (n : ℕ) (test : ℕ → Bool) → AllByRecursion (λ u. (u < n - 1) × (test u ≡ true)) (filter test (units n))
units-known n test =
    all-both (λ u. u < n - 1) (λ u. test u ≡ true) (λ u. (u < n - 1) × (test u ≡ true)) (λ u less passes. (less, passes)) (filter test (units n))
    (all-filter (λ u. u < n - 1) test (units n) (units-all n))
    (all-pass test (units n))

long-at : (xs : List (List ℕ)) (k : ℕ) → AllByRecursion (λ (block : List ℕ). length block ≡ 64) xs → length (slice_index_or xs k zeros) ≡ 64
long-at [] k all = refl
long-at (x ∷ xs) zero all = all.0
long-at (x ∷ xs) (suc k) all = long-at xs k all.1

pub not-true : (b : Bool) → b ≡ true → not b ≡ true → ⊥
not-true true e f = cc
not-true false e f = cc

-- A part of a write, and its row before it
pub record IsReady (a : Access) (part : RowPart) (parity : Cell) (cells : List Cell) : Type 0 where
  pub part_is : IsPart a.n part
  pub long : AllByRecursion (λ (block : List ℕ). length block ≡ 64) a.blocks
  pub room : part.at + part.count ≤ length a.blocks
  pub count : length cells ≡ a.n - 1
  pub blocks : AreBlocks (parity ∷ cells)
  pub sound : IsSound parity cells

module _ (a : Access) (part : RowPart) (parity : Cell) (cells : List Cell) (is : IsReady a part parity cells) where
  abbrev wanted : List ℕ
  wanted = units_in a.n part.mask

  abbrev after_it : List Cell
  after_it = changed cells (part_changes a part)

  wanted-distinct : AreDistinct wanted
  wanted-distinct = distinct-kept (has_unit part.mask) (units a.n) (range-distinct 0 (a.n - 1))

  wanted-below : AllByRecursion (λ u. u < length cells) wanted
  wanted-below =
      all-weaken (λ u. (u < a.n - 1) × (has_unit part.mask u ≡ true)) (λ u. u < length cells) (λ u known. below u known.0) wanted (units-known a.n (has_unit part.mask)) where
        below : (u : ℕ) → u < a.n - 1 → u < length cells
        below u less = let e : length cells ≡ a.n - 1 = is.count in omega arith

  long-block : (u : ℕ) → length (block_at a part u) ≡ 64
  long-block u = long-at a.blocks (part.at + rank u wanted) is.long

  are-all : AreChanges (length cells) (part_changes a part)
  are-all = are-changes (block_at a part) (length cells) long-block wanted wanted-below

  written-blocks : AreBlocks after_it
  written-blocks = changed-blocks (block_at a part) cells wanted long-block is.blocks.1

  -- the new blocks are those of the units in turn
  new-in-turn : take part.count (drop part.at a.blocks) ≡ map (block_at a part) wanted
  new-in-turn =
      let counted : length wanted ≡ part.count = is.part_is.counted in
      let room : part.at + part.count ≤ length a.blocks = is.room in
      sym (by-rank a.blocks part.at wanted wanted-distinct (omega arith) ∙ ap (λ (k : ℕ). take k (drop part.at a.blocks)) counted)

  written-sound : IsSound (parity_of after_it) after_it
  written-sound = (writes_keep_sound parity cells (part_changes a part) is.blocks are-all is.sound).1

  pub wanted-cells : AllByRecursion (λ u. cell_of after_it u ≡ plain_cell (block_at a part u)) wanted
  wanted-cells = taken-cells (block_at a part) cells wanted wanted-distinct wanted-below

  other-cells : AllByRecursion (λ u. cell_of after_it u ≡ cell_of cells u) (units_out a.n part.mask)
  other-cells =
      all-weaken (λ u. (u < a.n - 1) × (not (has_unit part.mask u) ≡ true)) (λ u. cell_of after_it u ≡ cell_of cells u)
      (λ u known. kept-cell (block_at a part) cells wanted u (apart u known.1)) (units_out a.n part.mask) (units-known a.n (λ unit. not (has_unit part.mask unit))) where
        apart : (u : ℕ) → not (has_unit part.mask u) ≡ true → AllByRecursion (λ v. v ≢ u) wanted
        apart u out =
            all-weaken (λ v. has_unit part.mask v ≡ true) (λ v. v ≢ u)
            (λ v has same. not-true (has_unit part.mask u) (subst (λ (v : ℕ). has_unit part.mask v ≡ true) same has) out)
            wanted (all-pass (has_unit part.mask) (units a.n))

  -- the row is sound after it
  pub ready-count : length after_it ≡ a.n - 1
  ready-count = length-changed (block_at a part) cells wanted ∙ is.count

  pub ready-blocks : AreBlocks (parity_of after_it ∷ after_it)
  ready-blocks = parity_blocks after_it written-blocks

  pub ready-sound : IsSound (parity_of after_it) after_it
  ready-sound = written-sound

  -- the parity made of the new blocks and the other cells
  pub whole-parity : (os : List (Option Grant)) → Filled (Given (cell_of cells)) (units_out a.n part.mask) os []
      → parity_of (map plain_cell (take part.count (drop part.at a.blocks)) ++ cells_in os) ≡ parity_of after_it
  whole-parity os f =
      let cell : ℕ → Cell = cell_of after_it in
      let news : map plain_cell (map (block_at a part) wanted) ≡ map cell wanted = map-map wanted wanted-cells in
      let rest : map (cell_of cells) (units_out a.n part.mask) ≡ map cell (units_out a.n part.mask) =
      sym (same-map cell (cell_of cells) (units_out a.n part.mask) other-cells) in
      let all : map cell (units a.n) ≡ after_it =
      ap (λ (n : ℕ). map cell (range_with_len 0 n)) (sym ready-count) ∙ (by_units after_it).all in
      ap (λ blocks. parity_of (map plain_cell blocks ++ cells_in os)) new-in-turn
      ∙ ap (λ cs. parity_of (cs ++ cells_in os)) news
      ∙ ap (λ cs. parity_of (map cell wanted ++ cs)) (given-cells (cell_of cells) (units_out a.n part.mask) os f ∙ rest)
      ∙ order_free cell (has_unit part.mask) (units a.n) (subst AreBlocks (sym all) written-blocks)
      ∙ ap parity_of all where
        map-map : (us : List ℕ) → AllByRecursion (λ u. cell_of after_it u ≡ plain_cell (block_at a part u)) us → map plain_cell (map (block_at a part) us) ≡ map (cell_of after_it) us
        map-map [] all = refl
        map-map (u ∷ us) all =
            ap (λ c. c ∷ map plain_cell (map (block_at a part) us)) (sym all.0) ∙ ap (λ cs. cell_of after_it u ∷ cs) (map-map us all.1)

  -- and the one made of the old parity and the old cells
  pub small-parity : (os : List (Option Grant)) → Filled (Given (cell_of cells)) wanted os []
      → folded parity wanted os (take part.count (drop part.at a.blocks)) ≡ parity_of after_it
  small-parity os f =
      let keeps = writes_keep_sound parity cells (part_changes a part) is.blocks are-all is.sound in
      ap (λ blocks. folded parity wanted os blocks) new-in-turn
      ∙ small-run (block_at a part) cells wanted os parity f
      ∙ old_serve parity cells (part_changes a part) (are-apart (block_at a part) wanted wanted-distinct)
      ∙ one-parity (folded_small parity cells (part_changes a part)) (parity_of after_it) after_it
      (folded-blocks (block_at a part) parity cells wanted is.blocks.0 is.blocks.1 long-block, ready-blocks) keeps.0 keeps.1

-- where all units are wanted there is no other
pub none-out : (n : ℕ) (part : RowPart) → IsPart n part → part.count ≡ n - 1 → units_out n part.mask ≡ []
none-out n part is all =
    let counted : length (units_in n part.mask) ≡ part.count = is.counted in
    nil_from_length (units_out n part.mask) (omega (arith, both-units n part.mask))
