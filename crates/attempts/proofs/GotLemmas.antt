-- What replies that show the cells of a row give of its slots.
use Rattle.std.proofs.Common.{◌≡◌, ◌≢◌, ◌∙◌, ◌⊎◌, inl, inr, refl, sym, ap, subst, ℕ, zero, suc, ◌+◌, ◌-◌, ◌<◌, ◌≤◌, ◌==◌, ◌&&◌, not, Bool, true, false, cond, List, [], ◌∷◌, ◌++◌, Option, Some, None, map, filter, zip, unwrap_or, is_none, arith}
use Rattle.std.specs.List.{AllByRecursion, range_with_len}
use Rattle.std.proofs.lemmas.Bool.{eq-eqb, ne_eqb}
use Rattle.std.proofs.lemmas.Bool.Decides.{eqb_tells}
use Rattle.raid_base.specs.declared.numbers.BayNo.{BayNo}
use Rattle.raid_base.specs.declared.numbers.RowNo.{RowNo}
use Rattle.raid_base.specs.declared.numbers.Number.{Number}
use Rattle.raid_base.specs.declared.cells.Cell.{Cell}
use Rattle.raid_base.specs.declared.jobs.Cause.{Cause}
use Rattle.raid_base.specs.declared.jobs.Cause.TheVariants.{Broken}
use Rattle.raid_base.specs.declared.messages.How.TheVariants.{Plain, Seize}
use Rattle.raid_base.specs.declared.messages.Reply.{Reply}
use Rattle.raid_base.specs.declared.messages.Reply.TheVariants.{Granted, Busy, Late, Young, Missing, Held, NoNote, Done, Fault, Emptied, Fitted}
use Rattle.raid_base.specs.declared.messages.Grant.{Grant}
use Rattle.raid_base.specs.Cells.{zero_cell}
use Rattle.raid_base.specs.Fits.{fits_shown, fits_share, fits_claim}
use Rattle.raid_base.specs.Replies.{grant_of}
use Rattle.stripe_layout.specs.Placement.{bay, bay_of}
use Rattle.stripe_layout.proofs.LayoutLemmas.{unit_distinct}
use Rattle.degraded_plans.specs.Laws.{cell_of}
use Rattle.attempts.specs.Taking.{is_behind, broken, unless, grant_or_gap}
use Rattle.attempts.specs.Reading.{cell_in, cells_in}
use Rattle.attempts.specs.Recovery.{missing_in}
use Rattle.attempts.specs.Sound.{Cells, cell_on, IsThis, GrantShows}
use Rattle.attempts.proofs.SoundLemmas.{unit-on, but}

-- Replies to shares and claims
abbrev pub Gives : Bool → Reply → Type 0
Gives want (Granted cell read_no write_no last life seized) = fits_shown want cell ≡ true
Gives want (Missing floor) = Unit {0}
Gives want (Busy holder) = Unit {0}
Gives want (Late above) = Unit {0}
Gives want (Young note) = Unit {0}
Gives want Fault = Unit {0}
Gives want (Held cell) = ⊥
Gives want (NoNote life) = ⊥
Gives want Done = ⊥
Gives want Emptied = ⊥
Gives want Fitted = ⊥

left-true : (a b : Bool) → (a && b) ≡ true → a ≡ true
left-true true b e = refl
left-true false b e = cc

pub share-gives : (want : Bool) (r : Reply) → fits_share want r ≡ true → Gives want r
share-gives want (Granted cell read_no write_no last life seized) e = left-true (fits_shown want cell) (is_none seized) e
share-gives want (Missing floor) e = tt
share-gives want (Busy holder) e = tt
share-gives want (Late above) e = tt
share-gives want (Young note) e = tt
share-gives want Fault e = tt
share-gives want (Held cell) e = cc
share-gives want (NoNote life) e = cc
share-gives want Done e = cc
share-gives want Emptied e = cc
share-gives want Fitted e = cc

pub seize-gives : (want : Bool) (r : Reply) → fits_claim Seize want r ≡ true → Gives want r
seize-gives want (Granted cell read_no write_no last life seized) e = e
seize-gives want (Missing floor) e = tt
seize-gives want (Busy holder) e = tt
seize-gives want (Late above) e = tt
seize-gives want (Young note) e = tt
seize-gives want Fault e = tt
seize-gives want (Held cell) e = cc
seize-gives want (NoNote life) e = cc
seize-gives want Done e = cc
seize-gives want Emptied e = cc
seize-gives want Fitted e = cc

pub plain-gives : (want : Bool) (r : Reply) → fits_claim Plain want r ≡ true → Gives want r
plain-gives want (Granted cell read_no write_no last life seized) e = left-true (fits_shown want cell) (is_none seized) e
plain-gives want (Missing floor) e = tt
plain-gives want (Busy holder) e = tt
plain-gives want (Late above) e = tt
plain-gives want (Young note) e = tt
plain-gives want Fault e = tt
plain-gives want (Held cell) e = cc
plain-gives want (NoNote life) e = cc
plain-gives want Done e = cc
plain-gives want Emptied e = cc
plain-gives want Fitted e = cc

-- the cell of the slot, where it is wanted
abbrev pub IsCell : Bool → Cell → Option Cell → Type 0
IsCell true cell shown = shown ≡ Some cell
IsCell false cell shown = shown ≡ None

-- what a reply that does not refuse gives: the cell, or that the slot is missing, which is the first such slot or on the same bay
abbrev pub Took : Bool → Cell → Option BayNo → BayNo → Option (Option Grant) → Type 0
Took want cell missing at None = Unit {0}
Took want cell missing at (Some (Some grant)) = IsCell want cell grant.cell
Took want cell missing at (Some None) = (missing ≡ None) ⊎ (missing ≡ Some at)

is-cell : (want : Bool) (cell : Cell) (shown : Option Cell) → fits_shown want shown ≡ true → IsThis cell shown → IsCell want cell shown
is-cell true cell None e is = cc
is-cell true cell (Some other) e is = ap (λ (c : Cell). Some c) is
is-cell false cell None e is = refl
is-cell false cell (Some other) e is = cc

gap-by : (want : Bool) (cell : Cell) (at : BayNo) (missing : Option BayNo) → Took want cell missing at (unless (broken missing at) None)
gap-by want cell at None = inl refl
gap-by want cell at (Some first) = one (first.0 == at.0) (eqb_tells first.0 at.0) where
  one : (b : Bool) → ((b ≡ true) × (first.0 ≡ at.0)) ⊎ ((b ≡ false) × (first.0 ≢ at.0)) → Took want cell (Some first) at (unless (cond b None (Some (Broken first at))) None)
  one true (inl same) = inr (ap (λ (k : ℕ). Some (bay k)) same.1)
  one true (inr apart) = cc
  one false tells = tt

gap-took : (want : Bool) (cell : Cell) (missing : Option BayNo) (at : BayNo) (cause : Cause) (b : Bool) → Took want cell missing at (unless (cond b (Some cause) (broken missing at)) None)
gap-took want cell missing at cause true = tt
gap-took want cell missing at cause false = gap-by want cell at missing

pub took : (want : Bool) (cell : Cell) (least : Option Number) (missing : Option BayNo) (at : BayNo) (r : Reply) → Gives want r → GrantShows cell (grant_of r)
    → Took want cell missing at (grant_or_gap least missing at r)
took want cell least missing at (Granted shown read_no write_no last life seized) g s = is-cell want cell shown g s
took want cell least missing at (Missing floor) g s = gap-took want cell missing at _ (is_behind least floor)
took want cell least missing at (Busy holder) g s = tt
took want cell least missing at (Late above) g s = tt
took want cell least missing at (Young note) g s = tt
took want cell least missing at Fault g s = tt
took want cell least missing at (Held shown) g s = absurd g
took want cell least missing at (NoNote life) g s = absurd g
took want cell least missing at Done g s = absurd g
took want cell least missing at Emptied g s = absurd g
took want cell least missing at Fitted g s = absurd g

-- Ascending units
abbrev pub Ascends : ℕ → List ℕ → Type 0
Ascends low [] = Unit {0}
Ascends low (u ∷ us) = (low ≤ u) × Ascends (u + 1) us

ascends-from : (low high : ℕ) → low ≤ high → (us : List ℕ) → Ascends high us → Ascends low us
ascends-from low high le [] h = tt
ascends-from low high le (u ∷ us) h = (omega (arith, h.0), h.1)

pub range-ascends : (first count : ℕ) → Ascends first (range_with_len first count)
range-ascends first zero = tt
range-ascends first (suc count) = (omega arith, range-ascends (first + 1) count)

pub filter-ascends : (test : ℕ → Bool) (low : ℕ) (us : List ℕ) → Ascends low us → Ascends low (filter test us)
filter-ascends test low [] h = tt
filter-ascends test low (u ∷ us) h = one (test u) (filter-ascends test (u + 1) us h.1) where
  one : (b : Bool) → Ascends (u + 1) (filter test us) → Ascends low (cond b (u ∷ filter test us) (filter test us))
  one true rest = (h.0, rest)
  one false rest = ascends-from low (u + 1) (omega (arith, h.0)) (filter test us) rest

-- none of these is this unit
abbrev pub AreNot : ℕ → List ℕ → Type 0
AreNot unit us = AllByRecursion (λ (other : ℕ). other ≢ unit) us

ascends-past : (unit low : ℕ) (us : List ℕ) → unit < low → Ascends low us → AreNot unit us
ascends-past unit low [] less h = tt
ascends-past unit low (u ∷ us) less h = (λ e. omega (arith, h.0), ascends-past unit (u + 1) us (omega (arith, h.0)) h.1)

pub but-none : (unit : ℕ) (us : List ℕ) → AreNot unit us → but unit us ≡ us
but-none unit [] all = refl
but-none unit (u ∷ us) all = one (u == unit) (ne_eqb u unit all.0) (but-none unit us all.1) where
  one : (b : Bool) → b ≡ false → but unit us ≡ us → cond (not b) (u ∷ but unit us) (but unit us) ≡ u ∷ us
  one true e rest = cc
  one false e rest = ap (λ (others : List ℕ). u ∷ others) rest

-- the unit that is missing
pub gap-in : (P : ℕ → Type 0) (us : List ℕ) (gs : List (Option Grant)) (unit : ℕ) → missing_in (zip us gs) ≡ Some unit → AllByRecursion P us → P unit
gap-in P [] gs unit e all = cc
gap-in P (u ∷ us) [] unit e all = cc
gap-in P (u ∷ us) (Some grant ∷ gs) unit e all = gap-in P us gs unit e all.1
gap-in P (u ∷ us) (None ∷ gs) unit e all = let same : u ≡ unit = cc in subst P same all.0

gap-from : (low : ℕ) (us : List ℕ) (gs : List (Option Grant)) (unit : ℕ) → missing_in (zip us gs) ≡ Some unit → Ascends low us → low ≤ unit
gap-from low [] gs unit e h = cc
gap-from low (u ∷ us) [] unit e h = cc
gap-from low (u ∷ us) (Some grant ∷ gs) unit e h = let more : u + 1 ≤ unit = gap-from (u + 1) us gs unit e h.1 in omega (arith, h.0)
gap-from low (u ∷ us) (None ∷ gs) unit e h = let same : u ≡ unit = cc in omega (arith, h.0)

-- Grants
module _ (n : ℕ) (cells : Cells) (row : RowNo) where
  -- a grant shows the cell of its slot, and where there is none its bay is the one that is missing
  abbrev pub IsGot : Option BayNo → BayNo → Option Grant → Type 0
  IsGot missing at (Some grant) = cell_in grant ≡ cell_on n cells at row
  IsGot missing at None = missing ≡ Some at

  -- so do these, of the first of some units, with those that are left
  abbrev pub Got : Option BayNo → List ℕ → List ℕ → List (Option Grant) → Type 0
  Got missing us left [] = us ≡ left
  Got missing [] left (grant ∷ gs) = ⊥
  Got missing (u ∷ us) left (grant ∷ gs) = IsGot missing (bay_of n row u) grant × Got missing us left gs

  abbrev pub missing_after : Option BayNo → BayNo → Option Grant → Option BayNo
  missing_after missing at (Some grant) = missing
  missing_after missing at None = Some at

  pub still-got : (cell : Cell) (missing : Option BayNo) (at : BayNo) (grant : Option Grant) → Took true cell missing at (Some grant)
      → (other : BayNo) (o : Option Grant) → IsGot missing other o → IsGot (missing_after missing at grant) other o
  still-got cell missing at (Some grant) t other o is = is
  still-got cell missing at None t other (Some g) is = is
  still-got cell missing at None (inl none) other None is = cc
  still-got cell missing at None (inr same) other None is = sym same ∙ is

  pub still-all : (cell : Cell) (missing : Option BayNo) (at : BayNo) (grant : Option Grant) → Took true cell missing at (Some grant)
      → (us left : List ℕ) (gs : List (Option Grant)) → Got missing us left gs → Got (missing_after missing at grant) us left gs
  still-all cell missing at grant t us left [] h = h
  still-all cell missing at grant t [] left (g ∷ gs) h = absurd h
  still-all cell missing at grant t (u ∷ us) left (g ∷ gs) h = (still-got cell missing at grant t (bay_of n row u) g h.0, still-all cell missing at grant t us left gs h.1)

  got-more : (missing : Option BayNo) (us left : List ℕ) (u : ℕ) (gs : List (Option Grant)) (grant : Option Grant) → Got missing us (u ∷ left) gs → IsGot missing (bay_of n row u) grant
      → Got missing us left (gs ++ grant ∷ [])
  got-more missing us left u [] grant h is = let e : u ∷ left ≡ us = sym h in subst (λ (xs : List ℕ). Got missing xs left (grant ∷ [])) e (is, refl)
  got-more missing [] left u (g ∷ gs) grant h is = absurd h
  got-more missing (v ∷ us) left u (g ∷ gs) grant h is = (h.0, got-more missing us left u gs grant h.1 is)

  pub took-is : (missing : Option BayNo) (at : BayNo) (grant : Option Grant) → Took true (cell_on n cells at row) missing at (Some grant) → IsGot (missing_after missing at grant) at grant
  took-is missing at (Some grant) t = ap (λ (shown : Option Cell). unwrap_or shown zero_cell) t
  took-is missing at None t = refl

  pub got-next : (missing : Option BayNo) (us left : List ℕ) (u : ℕ) (gs : List (Option Grant)) (grant : Option Grant) → Got missing us (u ∷ left) gs
      → Took true (cell_on n cells (bay_of n row u) row) missing (bay_of n row u) (Some grant) → Got (missing_after missing (bay_of n row u) grant) us left (gs ++ grant ∷ [])
  got-next missing us left u gs grant h t =
      got-more (missing_after missing (bay_of n row u) grant) us left u gs grant
      (still-all (cell_on n cells (bay_of n row u) row) missing (bay_of n row u) grant t us (u ∷ left) gs h)
      (took-is missing (bay_of n row u) grant t)

  -- the unit that is missing is on the bay that is
  pub gap-at : (missing : Option BayNo) (us : List ℕ) (gs : List (Option Grant)) (unit : ℕ) → Got missing us [] gs → missing_in (zip us gs) ≡ Some unit → missing ≡ Some (bay_of n row unit)
  gap-at missing [] gs unit h e = cc
  gap-at missing (u ∷ us) [] unit h e = cc
  gap-at missing (u ∷ us) (Some grant ∷ gs) unit h e = gap-at missing us gs unit h.1 e
  gap-at missing (u ∷ us) (None ∷ gs) unit h e = let same : u ≡ unit = cc in h.0 ∙ ap (λ v. Some (bay_of n row v)) same

  abbrev data_cell : ℕ → Cell
  data_cell unit = cell_of (cells.units row) unit

  module _ (least : 3 ≤ n) where
    -- all were granted
    pub no-gap : (missing : Option BayNo) (us : List ℕ) (gs : List (Option Grant)) → AllByRecursion (λ u. u < n - 1) us → Got missing us [] gs → missing_in (zip us gs) ≡ None
        → cells_in gs ≡ map data_cell us
    no-gap missing [] [] below h e = refl
    no-gap missing (u ∷ us) [] below h e = cc
    no-gap missing [] (g ∷ gs) below h e = absurd h
    no-gap missing (u ∷ us) (None ∷ gs) below h e = cc
    no-gap missing (u ∷ us) (Some grant ∷ gs) below h e =
        ap (λ (cell : Cell). cell ∷ cells_in gs) (h.0 ∙ unit-on n cells row u least below.0)
        ∙ ap (λ (rest : List Cell). data_cell u ∷ rest) (no-gap missing us gs below.1 h.1 e)

    -- none of these units is the missing one
    none-missing : (missing : Option BayNo) (unit : ℕ) → unit < n - 1 → missing ≡ Some (bay_of n row unit) → (us : List ℕ) (gs : List (Option Grant)) → AllByRecursion (λ u. u < n - 1) us → AreNot unit us
        → Got missing us [] gs → missing_in (zip us gs) ≡ None
    none-missing missing unit hu is [] gs below apart h = refl
    none-missing missing unit hu is (u ∷ us) [] below apart h = cc
    none-missing missing unit hu is (u ∷ us) (Some grant ∷ gs) below apart h = none-missing missing unit hu is us gs below.1 apart.1 h.1
    none-missing missing unit hu is (u ∷ us) (None ∷ gs) below apart h =
        let same : bay_of n row u ≡ bay_of n row unit = some-same (sym h.0 ∙ is) in
        absurd (apart.0 (unit_distinct n row u unit least below.0 hu same)) where
          some-same : {x y : BayNo} → Some x ≡ Some y → x ≡ y
          some-same e = cc

    pub others-got : (missing : Option BayNo) (unit : ℕ) → unit < n - 1 → missing ≡ Some (bay_of n row unit) → (us : List ℕ) (gs : List (Option Grant)) → AllByRecursion (λ u. u < n - 1) us → AreNot unit us
        → Got missing us [] gs → cells_in gs ≡ map data_cell us
    others-got missing unit hu is us gs below apart h = no-gap missing us gs below h (none-missing missing unit hu is us gs below apart h)

    -- one was missing, and all others granted
    pub one-gap : (missing : Option BayNo) (low : ℕ) (us : List ℕ) (gs : List (Option Grant)) (unit : ℕ) → Ascends low us → AllByRecursion (λ u. u < n - 1) us → Got missing us [] gs
        → missing_in (zip us gs) ≡ Some unit → cells_in gs ≡ map data_cell (but unit us)
    one-gap missing low [] gs unit asc below h e = cc
    one-gap missing low (u ∷ us) [] unit asc below h e = cc
    one-gap missing low (u ∷ us) (Some grant ∷ gs) unit asc below h e =
        one (u == unit) (ne_eqb u unit (λ same. omega (arith, gap-from (u + 1) us gs unit e asc.1))) (one-gap missing (u + 1) us gs unit asc.1 below.1 h.1 e) where
          one : (b : Bool) → b ≡ false → cells_in gs ≡ map data_cell (but unit us) → cell_in grant ∷ cells_in gs ≡ map data_cell (cond (not b) (u ∷ but unit us) (but unit us))
          one true f rest = cc
          one false f rest =
              ap (λ (cell : Cell). cell ∷ cells_in gs) (h.0 ∙ unit-on n cells row u least below.0)
              ∙ ap (λ (others : List Cell). data_cell u ∷ others) rest
    one-gap missing low (u ∷ us) (None ∷ gs) unit asc below h e =
        let same : u ≡ unit = cc in
        let apart : AreNot u us = ascends-past u (u + 1) us (omega arith) asc.1 in
        others-got missing u below.0 h.0 us gs below.1 apart h.1
        ∙ ap (map data_cell) (sym (but-none u us apart) ∙ one (u == u) (eq-eqb u u refl))
        ∙ ap (λ v. map data_cell (but v (u ∷ us))) same where
          one : (b : Bool) → b ≡ true → but u us ≡ cond (not b) (u ∷ but u us) (but u us)
          one true f = refl
          one false f = cc
