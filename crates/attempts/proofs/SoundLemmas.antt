-- Walks over replies that show the cells of rows, and where a row's cells stand.
use Rattle.std.proofs.Common.{◌≡◌, ◌∙◌, refl, sym, ap, subst, ℕ, zero, suc, ◌+◌, ◌-◌, ◌<◌, ◌≤◌, ◌==◌, Bool, true, false, cond, not, List, [], ◌∷◌, Option, Some, None, IfSome, map, filter, take, drop, length, arith}
use Rattle.std.specs.List.{AllByRecursion, range_with_len}
use Rattle.std.proofs.lemmas.List.{take-append-drop}
use Rattle.raid_base.specs.declared.numbers.BayNo.{BayNo}
use Rattle.raid_base.specs.declared.numbers.RowNo.{RowNo}
use Rattle.raid_base.specs.declared.cells.Cell.{Cell}
use Rattle.raid_base.specs.declared.messages.Reply.{Reply}
use Rattle.raid_base.specs.declared.messages.Errand.{Errand}
use Rattle.raid_base.specs.Steps.{Steps, Ends, bind, go_on, Commit, Walk, Through, Stopped, Phase, run}
use Rattle.stripe_layout.specs.Placement.{parity_bay, bay_of, bays_of, units}
use Rattle.stripe_layout.proofs.LayoutLemmas.{unit_at_parity, unit_back}
use Rattle.raid_xor.specs.Laws.{AreBlocks}
use Rattle.raid_xor.proofs.XorLemmas.{AreBlocks-append}
use Rattle.raid_xor.proofs.Parities.{same_cell}
use Rattle.degraded_plans.specs.Rows.{IsSound}
use Rattle.degraded_plans.specs.Laws.{cell_of, others}
use Rattle.degraded_plans.proofs.SoundRows.{parity_sum, AreBlocks-front, AreBlocks-back}
use Rattle.degraded_plans.proofs.RowUnits.{by_units}
use Rattle.attempts.specs.Sound.{Cells, role_cell, cell_on, Shows, Showing}

-- Walks
module _ {A B : Type 0} (n : ℕ) (cells : Cells) (P : Errand → List Commit → Type 0) (Q : B → Type 0) where
  shows-go : (J : A → Type 0) (o : Option A) (g : A → Steps (Walk A)) (s : Steps (Walk A)) (f : Walk A → Steps B)
      → IfSome o J → ((a : A) → J a → Showing n cells P Q (bind (g a) f)) → Showing n cells P Q (bind s f) → Showing n cells P Q (bind (go_on o g s) f)
  shows-go J (Some a) g s f i on off = on a i
  shows-go J None g s f i on off = off

  -- over errands made of some places, with what is known while some are left
  pub shows-walk : {X : Type 0} (make : X → Errand) (J : List X → A → Type 0) (phase : Phase A) (f : Walk A → Steps B)
      → ((x : X) (xs : List X) (a : A) → J (x ∷ xs) a → P (make x) (phase.commits a (make x)))
      → ((x : X) (xs : List X) (a : A) (r : Reply) → J (x ∷ xs) a → Shows n cells (make x) r → IfSome (phase.step a (make x) r) (J xs))
      → ((a : A) → J [] a → Showing n cells P Q (f (Through a)))
      → ((x : X) (xs : List X) (a : A) (r : Reply) → J (x ∷ xs) a → Shows n cells (make x) r → Showing n cells P Q (f (Stopped a (make x) r)))
      → (xs : List X) (a : A) → J xs a → Showing n cells P Q (bind (run phase (map make xs) a) f)
  shows-walk make J phase f may kept on off [] a j = on a j
  shows-walk make J phase f may kept on off (x ∷ xs) a j = (
    may x xs a j,
    λ r s. shows-go (J xs) (phase.step a (make x) r) (λ b. run phase (map make xs) b) (Ends (Stopped a (make x) r)) f
        (kept x xs a r j s)
        (λ b jb. shows-walk make J phase f may kept on off xs b jb)
        (off x xs a r j s),
  )

  -- and over those of some units
  pub shows-units : (place : ℕ → BayNo) (make : BayNo → Errand) (J : List ℕ → A → Type 0) (phase : Phase A) (f : Walk A → Steps B)
      → ((u : ℕ) (us : List ℕ) (a : A) → J (u ∷ us) a → P (make (place u)) (phase.commits a (make (place u))))
      → ((u : ℕ) (us : List ℕ) (a : A) (r : Reply) → J (u ∷ us) a → Shows n cells (make (place u)) r → IfSome (phase.step a (make (place u)) r) (J us))
      → ((a : A) → J [] a → Showing n cells P Q (f (Through a)))
      → ((u : ℕ) (us : List ℕ) (a : A) (r : Reply) → J (u ∷ us) a → Shows n cells (make (place u)) r → Showing n cells P Q (f (Stopped a (make (place u)) r)))
      → (us : List ℕ) (a : A) → J us a → Showing n cells P Q (bind (run phase (map make (map place us)) a) f)
  shows-units place make J phase f may kept on off [] a j = on a j
  shows-units place make J phase f may kept on off (u ∷ us) a j = (
    may u us a j,
    λ r s. shows-go (J us) (phase.step a (make (place u)) r) (λ b. run phase (map make (map place us)) b) (Ends (Stopped a (make (place u)) r)) f
        (kept u us a r j s)
        (λ b jb. shows-units place make J phase f may kept on off us b jb)
        (off u us a r j s),
  )

  -- of one errand
  pub shows-one : (phase : Phase A) (f : Walk A → Steps B) (e : Errand) (a : A) → P e (phase.commits a e)
      → ((r : Reply) → Shows n cells e r → IfSome (phase.step a e r) (λ b. Showing n cells P Q (f (Through b))))
      → ((r : Reply) → Shows n cells e r → Showing n cells P Q (f (Stopped a e r)))
      → Showing n cells P Q (bind (run phase (e ∷ []) a) f)
  shows-one phase f e a may on off = (
    may,
    λ r s. shows-go (λ b. Showing n cells P Q (f (Through b))) (phase.step a e r) (λ b. run phase [] b) (Ends (Stopped a e r)) f (on r s) (λ b ok. ok) (off r s),
  )

  -- whatever is answered, where each errand may be made at any time
  pub shows-any : (phase : Phase A) (f : Walk A → Steps B) (es : List Errand) (a : A) → AllByRecursion (λ (e : Errand). (b : A) → P e (phase.commits b e)) es
      → ((walk : Walk A) → Showing n cells P Q (f walk)) → Showing n cells P Q (bind (run phase es a) f)
  shows-any phase f [] a all on = on (Through a)
  shows-any phase f (e ∷ es) a all on = (
    all.0 a,
    λ r s. shows-go (λ b. Unit {0}) (phase.step a e r) (λ b. run phase es b) (Ends (Stopped a e r)) f (any (phase.step a e r))
        (λ b i. shows-any phase f es b all.1 on)
        (on (Stopped a e r)),
  ) where
    any : (o : Option A) → IfSome o (λ a. Unit {0})
    any (Some a) = tt
    any None = tt

-- Where a row's cells stand
pub parity-on : (n : ℕ) (cells : Cells) (row : RowNo) → cell_on n cells (parity_bay n row) row ≡ cells.parity row
parity-on n cells row = ap (role_cell (cells.parity row) (cells.units row)) (unit_at_parity n row)

pub unit-on : (n : ℕ) (cells : Cells) (row : RowNo) (unit : ℕ) → 3 ≤ n → unit < n - 1 → cell_on n cells (bay_of n row unit) row ≡ cell_of (cells.units row) unit
unit-on n cells row unit least below = ap (role_cell (cells.parity row) (cells.units row)) (unit_back n row unit least below)

-- The units of a row
pub range-all : (first count most : ℕ) → first + count ≤ most → AllByRecursion (λ unit. unit < most) (range_with_len first count)
range-all first zero most fits = tt
range-all first (suc count) most fits = (omega arith, range-all (first + 1) count most (omega arith))

pub units-all : (n : ℕ) → AllByRecursion (λ unit. unit < n - 1) (units n)
units-all n = range-all 0 (n - 1) (n - 1) (omega arith)

pub all-filter : {X : Type 0} (P : X → Type 0) (test : X → Bool) (xs : List X) → AllByRecursion P xs → AllByRecursion P (filter test xs)
all-filter P test [] all = tt
all-filter P test (x ∷ xs) all = one (test x) (all-filter P test xs all.1) where
  one : (b : Bool) → AllByRecursion P (filter test xs) → AllByRecursion P (cond b (x ∷ filter test xs) (filter test xs))
  one true rest = (all.0, rest)
  one false rest = rest

pub units-on : (n : ℕ) (cells : Cells) (row : RowNo) → 3 ≤ n → (us : List ℕ) → AllByRecursion (λ unit. unit < n - 1) us
    → map (λ (bay : BayNo). cell_on n cells bay row) (bays_of n row us) ≡ map (cell_of (cells.units row)) us
units-on n cells row least [] all = refl
units-on n cells row least (unit ∷ us) all =
    ap (λ (cell : Cell). cell ∷ map (λ (bay : BayNo). cell_on n cells bay row) (bays_of n row us)) (unit-on n cells row unit least all.0)
    ∙ ap (λ (rest : List Cell). cell_of (cells.units row) unit ∷ rest) (units-on n cells row least us all.1)

-- all of them, and those but one
pub whole-row : (n : ℕ) (cells : List Cell) → length cells ≡ n - 1 → map (cell_of cells) (units n) ≡ cells
whole-row n cells count = ap (λ k. map (cell_of cells) (range_with_len 0 k)) (sym count) ∙ (by_units cells).all

abbrev pub but : ℕ → List ℕ → List ℕ
but unit us = filter (λ other. not (other == unit)) us

pub row-but : (n : ℕ) (cells : List Cell) (unit : ℕ) → length cells ≡ n - 1 → map (cell_of cells) (but unit (units n)) ≡ others unit cells
row-but n cells unit count = ap (λ k. map (cell_of cells) (but unit (range_with_len 0 k))) (sym count) ∙ (by_units cells).but unit

pub others-blocks : (cells : List Cell) (unit : ℕ) → AreBlocks cells → AreBlocks (others unit cells)
others-blocks cells unit bs =
    AreBlocks-append (take unit cells) (drop (unit + 1) cells)
    (AreBlocks-front (take unit cells) (drop unit cells) (subst AreBlocks (sym (take-append-drop unit cells)) bs))
    (AreBlocks-back (take (unit + 1) cells) (drop (unit + 1) cells) (subst AreBlocks (sym (take-append-drop (unit + 1) cells)) bs))

-- A row has one sound parity.
pub one-parity : (p q : Cell) (cells : List Cell) → AreBlocks (p ∷ q ∷ cells) → IsSound p cells → IsSound q cells → p ≡ q
one-parity p q cells bs s t =
    same_cell p q (parity_sum p cells (bs.0, bs.1.1) s.sum ∙ sym (parity_sum q cells bs.1 t.sum)) (s.marks ∙ sym t.marks)
