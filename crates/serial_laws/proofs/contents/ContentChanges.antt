-- Lists of cells of contents when some units take others, and what the last of some commits leaves.
use Rattle.std.proofs.Common.{◌≡◌, inl, inr, ◌∙◌, ℕ, zero, suc, ◌+◌, ◌-◌, ◌^◌, ◌<◌, ◌==◌, ◌&&◌, Bool, true, false, cond, if◌then◌else◌, List, [], ◌∷◌, length, map, filter, slice_set, refl, sym, ap, subst, arith}
use Rattle.std.specs.List.{AllByRecursion, range_with_len}
use Rattle.std.proofs.lemmas.Bool.{eq-eqb}
use Rattle.std.proofs.lemmas.Bool.Decides.{nat_tests}
use Rattle.std.proofs.lemmas.Bool.{and_parts}
use Rattle.raid_base.specs.declared.numbers.RowNo.{RowNo}
use Rattle.raid_base.specs.declared.cells.Cell.{Cell}
use Rattle.raid_base.specs.declared.cells.Content.{Content}
use Rattle.raid_base.specs.declared.cells.Content.TheVariants.{Bytes, Lost}
use Rattle.raid_base.specs.Cells.{zeros, plain_cell}
use Rattle.raid_base.specs.Steps.{Commit}
use Rattle.raid_xor.specs.Laws.{AreBlocks}
use Rattle.stripe_layout.specs.Placement.{units}
use Rattle.degraded_plans.specs.Laws.{changed}
use Rattle.attempts.specs.Phases.{IsIn}
use Rattle.attempts.specs.Sound.{lost_units}
use Rattle.serial_laws.specs.Laws.{is_of, last_of}
use Rattle.serial_laws.specs.Contents.{cell_with, cells_with}

-- Truth values
pub both-true : (a b : Bool) → a ≡ true → b ≡ true → (a && b) ≡ true
both-true true b p q = q
both-true false b p q = absurd (cc)

-- the same unit of the same row
pub of-itself : (row : RowNo) (unit : ℕ) (c : Commit) → c.row ≡ row → c.unit ≡ unit → is_of row unit c ≡ true
of-itself row unit c at same = both-true (c.row.0 == row.0) (c.unit == unit) (eq-eqb c.row.0 row.0 (ap (λ (r : RowNo). r.0) at)) (eq-eqb c.unit unit same)

pub of-unit : (row : RowNo) (unit : ℕ) (c : Commit) → is_of row unit c ≡ true → c.unit ≡ unit
of-unit row unit c h = let same : (c.unit == unit) ≡ true = (and_parts (c.row.0 == row.0) (c.unit == unit) h).1 in grind (arith, nat_tests)

-- Commits of one row, where each unit takes the content that f gives it, and is such
module _ (row : RowNo) (f : ℕ → Content) (R : ℕ → Type 0) where
  abbrev pub AreSo : List Commit → Type 0
  AreSo commits = AllByRecursion (λ (c : Commit). (c.row ≡ row) × (c.content ≡ f c.unit) × R c.unit) commits

  -- the content that is left of a unit: none commits it, or it has what f gives it
  pub data LastOf (unit : ℕ) (commits : List Commit) (before : Content) : Type 0 where
    Stays : (none : IsIn (record { row = row; unit = unit; content = f unit }) commits → ⊥) (same : last_of row unit commits before ≡ before) → LastOf unit commits before
    Takes : (now : last_of row unit commits before ≡ f unit) (so : R unit) → LastOf unit commits before

  pub last-of : (unit : ℕ) (commits : List Commit) (before : Content) → AreSo commits → LastOf unit commits before
  last-of unit [] before so = Stays (λ i. i) refl
  last-of unit (c ∷ commits) before so = by (λ content. last-of unit commits content so.1) (is_of row unit c) refl
    where
      this : Commit
      this = record { row = row; unit = unit; content = f unit }

      passed : LastOf unit commits before → is_of row unit c ≡ false → last_of row unit commits (if is_of row unit c then c.content else before) ≡ last_of row unit commits before →
          LastOf unit (c ∷ commits) before
      passed (Stays none same) e kept = Stays (λ i. other i) (kept ∙ same)
        where
          other : IsIn (record { row = row; unit = unit; content = f unit }) (c ∷ commits) → ⊥
          other (inl is) = let bad : true ≡ false = sym (of-itself row unit c (ap (λ (x : Commit). x.row) is) (ap (λ (x : Commit). x.unit) is)) ∙ e in absurd (cc)
          other (inr i) = none i
      passed (Takes now is) e kept = Takes (kept ∙ now) is

      taken : c.unit ≡ unit → LastOf unit commits c.content → last_of row unit commits (if is_of row unit c then c.content else before) ≡ last_of row unit commits c.content →
          LastOf unit (c ∷ commits) before
      taken same (Stays none stays) now = Takes (now ∙ stays ∙ so.0.1 ∙ ap f same) (subst R same so.0.2)
      taken same (Takes left is) now = Takes (now ∙ left) is

      by : ((content : Content) → LastOf unit commits content) → (b : Bool) → is_of row unit c ≡ b → LastOf unit (c ∷ commits) before
      by rest true e = taken (of-unit row unit c e) (rest c.content) (ap (λ (b : Bool). last_of row unit commits (if b then c.content else before)) e)
      by rest false e = passed (rest before) e (ap (λ (b : Bool). last_of row unit commits (if b then c.content else before)) e)

-- Lists of cells: one place takes another cell
set-from : (g h : ℕ → Cell) (first count k : ℕ) (cell : Cell) → h (first + k) ≡ cell → ((j : ℕ) → (j == first + k) ≡ false → h j ≡ g j) →
    slice_set (map g (range_with_len first count)) k cell ≡ map h (range_with_len first count)
set-from g h first zero k cell here other = refl
set-from g h first (suc count) zero cell here other =
    let at : h first ≡ cell = (let same : first ≡ first + 0 = omega arith in ap h same ∙ here) in
    ap (λ (c : Cell). c ∷ map g (range_with_len (first + 1) count)) (sym at)
    ∙ ap (λ (cs : List Cell). h first ∷ cs) (same-from (first + 1) count (omega arith))
  where
    same-from : (from some : ℕ) → first < from → map g (range_with_len from some) ≡ map h (range_with_len from some)
    same-from from zero above = refl
    same-from from (suc some) above =
        let apart : (from == first + 0) ≡ false = grind (arith, nat_tests) in
        ap (λ (c : Cell). c ∷ map g (range_with_len (from + 1) some)) (sym (other from apart))
        ∙ ap (λ (cs : List Cell). h from ∷ cs) (same-from (from + 1) some (omega (arith, above)))
set-from g h first (suc count) (suc k) cell here other =
    let apart : (first == first + suc k) ≡ false = grind (arith, nat_tests) in
    let there : first + 1 + k ≡ first + suc k = omega arith in
    ap (λ (c : Cell). c ∷ slice_set (map g (range_with_len (first + 1) count)) k cell) (sym (other first apart))
    ∙ ap (λ (cs : List Cell). h first ∷ cs)
    (set-from g h (first + 1) count k cell (ap h there ∙ here) (λ j e. other j (subst (λ (x : ℕ). (j == x) ≡ false) there e)))

pub set-cell : (n : ℕ) (x y : ℕ → Content) (k : ℕ) (cell : Cell) → cell_with k (y k) ≡ cell → ((j : ℕ) → (j == k) ≡ false → y j ≡ x j) → slice_set (cells_with n x) k cell ≡ cells_with n y
set-cell n x y k cell here other =
    let same : 0 + k ≡ k = omega arith in
    set-from (λ u. cell_with u (x u)) (λ u. cell_with u (y u)) 0 (n - 1) k cell (ap (λ (u : ℕ). cell_with u (y u)) same ∙ here)
    (λ j e. ap (λ (c : Content). cell_with j c) (other j (subst (λ (u : ℕ). (j == u) ≡ false) same e)))

-- the units that are committed are lost
pub lost-after : (n : ℕ) (row : RowNo) (commits : List Commit) (x : ℕ → Content) → AllByRecursion (λ (c : Commit). (c.row ≡ row) × (c.content ≡ Lost)) commits →
    lost_units (cells_with n x) commits ≡ cells_with n (λ unit. last_of row unit commits (x unit))
lost-after n row [] x so = refl
lost-after n row (c ∷ commits) x so =
    ap (λ (cells : List Cell). lost_units cells commits)
    (set-cell n x (λ unit. if is_of row unit c then c.content else x unit) c.unit (record { bytes = zeros; lost = 2 ^ c.unit }) here other)
    ∙ lost-after n row commits (λ unit. if is_of row unit c then c.content else x unit) so.1
  where
    itself : is_of row c.unit c ≡ true
    itself = of-itself row c.unit c so.0.0 refl

    here : cell_with c.unit (if is_of row c.unit c then c.content else x c.unit) ≡ record { bytes = zeros; lost = 2 ^ c.unit }
    here = ap (λ (b : Bool). cell_with c.unit (if b then c.content else x c.unit)) itself ∙ ap (λ (content : Content). cell_with c.unit content) so.0.1

    aside : (j : ℕ) → (j == c.unit) ≡ false → (b : Bool) → is_of row j c ≡ b → (if b then c.content else x j) ≡ x j
    aside j e true same = let is : c.unit ≡ j = of-unit row j c same in absurd (grind (arith, nat_tests))
    aside j e false same = refl

    other : (j : ℕ) → (j == c.unit) ≡ false → (if is_of row j c then c.content else x j) ≡ x j
    other j e = aside j e (is_of row j c) refl

-- and those of these changes have their blocks
module _ (block : ℕ → List ℕ) where
  abbrev pub taken_by : List ℕ → (ℕ → Content) → ℕ → Content
  taken_by [] x unit = x unit
  taken_by (u ∷ us) x unit = taken_by us (λ v. if v == u then Bytes (block u) else x v) unit

  pub changed-after : (n : ℕ) (us : List ℕ) (x : ℕ → Content) → changed (cells_with n x) (map (λ unit. record { unit = unit; block = block unit }) us) ≡ cells_with n (taken_by us x)
  changed-after n [] x = refl
  changed-after n (u ∷ us) x =
      ap (λ (cells : List Cell). changed cells (map (λ unit. record { unit = unit; block = block unit }) us))
      (set-cell n x (λ v. if v == u then Bytes (block u) else x v) u (plain_cell (block u)) here other)
      ∙ changed-after n us (λ v. if v == u then Bytes (block u) else x v)
    where
      here : cell_with u (if u == u then Bytes (block u) else x u) ≡ plain_cell (block u)
      here = ap (λ (b : Bool). cell_with u (if b then Bytes (block u) else x u)) (eq-eqb u u refl)

      other : (j : ℕ) → (j == u) ≡ false → (if j == u then Bytes (block u) else x j) ≡ x j
      other j e = ap (λ (b : Bool). if b then Bytes (block u) else x j) e

  -- a unit of none of the changes stays
  pub taken-other : (us : List ℕ) (x : ℕ → Content) (unit : ℕ) → (IsIn unit us → ⊥) → taken_by us x unit ≡ x unit
  taken-other [] x unit none = refl
  taken-other (u ∷ us) x unit none = taken-other us (λ v. if v == u then Bytes (block u) else x v) unit (λ i. none (inr i)) ∙ by (unit == u) refl
    where
      by : (b : Bool) → (unit == u) ≡ b → (if b then Bytes (block u) else x unit) ≡ x unit
      by true e = let same : u ≡ unit = grind (arith, nat_tests) in absurd (none (inl same))
      by false e = refl

  -- one that has its block keeps it, and one of the changes takes it
  taken-keeps : (us : List ℕ) (x : ℕ → Content) (unit : ℕ) → x unit ≡ Bytes (block unit) → taken_by us x unit ≡ Bytes (block unit)
  taken-keeps [] x unit has = has
  taken-keeps (u ∷ us) x unit has = taken-keeps us (λ v. if v == u then Bytes (block u) else x v) unit (by (unit == u) refl)
    where
      by : (b : Bool) → (unit == u) ≡ b → (if b then Bytes (block u) else x unit) ≡ Bytes (block unit)
      by true e = let same : u ≡ unit = grind (arith, nat_tests) in ap (λ (k : ℕ). Bytes (block k)) same
      by false e = has

  pub taken-this : (us : List ℕ) (x : ℕ → Content) (unit : ℕ) → IsIn unit us → taken_by us x unit ≡ Bytes (block unit)
  taken-this [] x unit i = absurd i
  taken-this (u ∷ us) x unit (inr i) = taken-this us (λ v. if v == u then Bytes (block u) else x v) unit i
  taken-this (u ∷ us) x unit (inl same) = taken-keeps us (λ v. if v == u then Bytes (block u) else x v) unit (ap (λ (b : Bool). if b then Bytes (block u) else x unit) (eq-eqb unit u (sym same)) ∙ ap (λ (k : ℕ). Bytes (block k)) same)

-- What a filter keeps
pub filter-has : (test : ℕ → Bool) (us : List ℕ) (u : ℕ) → test u ≡ true → IsIn u us → IsIn u (filter test us)
filter-has test [] u e i = i
filter-has test (v ∷ us) u e i = by (filter-has test us u e) (test v) refl i
  where
    by : (IsIn u us → IsIn u (filter test us)) → (b : Bool) → test v ≡ b → IsIn u (v ∷ us) → IsIn u (cond b (v ∷ filter test us) (filter test us))
    by rest true t (inl same) = inl same
    by rest true t (inr j) = inr (rest j)
    by rest false t (inl same) = absurd (let bad : true ≡ false = sym e ∙ ap test (sym same) ∙ t in cc)
    by rest false t (inr j) = rest j

pub filter-lacks : (test : ℕ → Bool) (us : List ℕ) (u : ℕ) → test u ≡ false → IsIn u (filter test us) → ⊥
filter-lacks test [] u e i = i
filter-lacks test (v ∷ us) u e i = by (filter-lacks test us u e) (test v) refl i
  where
    by : (IsIn u (filter test us) → ⊥) → (b : Bool) → test v ≡ b → IsIn u (cond b (v ∷ filter test us) (filter test us)) → ⊥
    by rest true t (inl same) = let bad : true ≡ false = sym t ∙ ap test same ∙ e in absurd (cc)
    by rest true t (inr j) = rest j
    by rest false t j = rest j

range-has : (first count k : ℕ) → k < count → IsIn (first + k) (range_with_len first count)
range-has first zero k below = absurd (omega arith)
range-has first (suc count) zero below = inl (omega arith)
range-has first (suc count) (suc k) below =
    let same : first + 1 + k ≡ first + suc k = omega arith in
    inr (subst (λ (x : ℕ). IsIn x (range_with_len (first + 1) count)) same (range-has (first + 1) count k (omega (arith, below))))

pub units-has : (n unit : ℕ) → unit + 1 < n → IsIn unit (units n)
units-has n unit below =
    let same : 0 + unit ≡ unit = omega arith in
    subst (λ (u : ℕ). IsIn u (units n)) same (range-has 0 (n - 1) unit (omega (arith, below)))

-- Blocks, cell by cell
blocks-of : (f : ℕ → Cell) (first count : ℕ) → ((u : ℕ) → u < first + count → length (f u).bytes ≡ 64) → AreBlocks (map f (range_with_len first count))
blocks-of f first zero each = tt
blocks-of f first (suc count) each = (each first (omega arith), blocks-of f (first + 1) count (λ u below. each u (omega (arith, below))))

pub all-blocks : (n : ℕ) (x : ℕ → Content) → ((unit : ℕ) → unit + 1 < n → length (cell_with unit (x unit)).bytes ≡ 64) → AreBlocks (cells_with n x)
all-blocks n x each = blocks-of (λ u. cell_with u (x u)) 0 (n - 1) (λ u below. each u (omega (arith, below)))

block-from : (f : ℕ → Cell) (first count k : ℕ) → k < count → AreBlocks (map f (range_with_len first count)) → length (f (first + k)).bytes ≡ 64
block-from f first zero k below blocks = absurd (omega arith)
block-from f first (suc count) zero below blocks = let same : first ≡ first + 0 = omega arith in subst (λ (u : ℕ). length (f u).bytes ≡ 64) same blocks.0
block-from f first (suc count) (suc k) below blocks =
    let same : first + 1 + k ≡ first + suc k = omega arith in
    subst (λ (u : ℕ). length (f u).bytes ≡ 64) same (block-from f (first + 1) count k (omega (arith, below)) blocks.1)

pub one-block : (n : ℕ) (x : ℕ → Content) (unit : ℕ) → unit + 1 < n → AreBlocks (cells_with n x) → length (cell_with unit (x unit)).bytes ≡ 64
one-block n x unit below blocks =
    let same : 0 + unit ≡ unit = omega arith in
    subst (λ (u : ℕ). length (cell_with u (x u)).bytes ≡ 64) same (block-from (λ u. cell_with u (x u)) 0 (n - 1) unit (omega (arith, below)) blocks)
