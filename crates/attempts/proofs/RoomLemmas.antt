-- How many units, bays and errands there are, and that they are within the array.
use Rattle.std.proofs.Common.{◌≡◌, ℕ, suc, ◌+◌, ◌-◌, ◌*◌, ◌<◌, ◌≤◌, ◌||◌, Bool, true, false, cond, not, List, [], ◌∷◌, ◌++◌, Option, Some, None, map, filter, zip, flat_map, sum_by, length, length-append, refl, ◌∙◌, arith}
use Rattle.std.specs.List.{AllByRecursion}
use Rattle.std.proofs.lemmas.List.{length-map}
use Rattle.std.proofs.lemmas.List.Filters.{length-filter_both}
use Rattle.std.proofs.lemmas.List.FromFn.{length-range_with_len}
use Rattle.std.proofs.lemmas.List.Sums.{sum_by-cons}
use Rattle.raid_base.specs.declared.numbers.BayNo.{BayNo}
use Rattle.raid_base.specs.declared.numbers.RowNo.{RowNo}
use Rattle.raid_base.specs.declared.messages.Mode.{Mode}
use Rattle.raid_base.specs.declared.messages.Mode.TheVariants.{Lock, Order}
use Rattle.raid_base.specs.declared.messages.Grant.{Grant}
use Rattle.raid_base.specs.declared.jobs.RowPart.{RowPart}
use Rattle.raid_base.specs.Cells.{has_unit}
use Rattle.stripe_layout.specs.Placement.{parity_bay, bay_of, bays_of, units, units_in, units_out}
use Rattle.attempts.specs.Taking.{Row}
use Rattle.attempts.specs.Releases.{granted_of, wanted_granted, others_granted, parity_granted, is_among, ascending, all_granted, claims_granted, write_holds, read_holds}
use Rattle.attempts.specs.Reading.{unit_content, row_contents, contents_of, row_readers}

-- Lists
module _ {X : Type 0} where
  pub filter-le : (test : X → Bool) (xs : List X) → length (filter test xs) ≤ length xs
  filter-le test [] = omega arith
  filter-le test (x ∷ xs) = one (test x) (filter-le test xs) where
    one : (b : Bool) → length (filter test xs) ≤ length xs → length (cond b (x ∷ filter test xs) (filter test xs)) ≤ suc (length xs)
    one true h = omega arith
    one false h = omega arith

  zip-le : {Y : Type 0} (xs : List X) (ys : List Y) → length (zip xs ys) ≤ length xs
  zip-le [] ys = omega arith
  zip-le (x ∷ xs) [] = omega arith
  zip-le (x ∷ xs) (y ∷ ys) = let h : length (zip xs ys) ≤ length xs = zip-le xs ys in omega arith

  pub flat_map-le : {Y : Type 0} (f : X → List Y) (n : ℕ) → ((x : X) → length (f x) ≤ n) → (xs : List X) → length (flat_map f xs) ≤ n * length xs
  flat_map-le f n h [] = omega arith
  flat_map-le f n h (x ∷ xs) = omega (arith, h x, flat_map-le f n h xs, length-append (f x) (flat_map f xs))

  pub all-append : (P : X → Type 0) (xs ys : List X) → AllByRecursion P xs → AllByRecursion P ys → AllByRecursion P (xs ++ ys)
  all-append P [] ys h g = g
  all-append P (x ∷ xs) ys h g = (h.0, all-append P xs ys h.1 g)

  pub all-left : (P : X → Type 0) (xs ys : List X) → AllByRecursion P (xs ++ ys) → AllByRecursion P xs
  all-left P [] ys h = tt
  all-left P (x ∷ xs) ys h = (h.0, all-left P xs ys h.1)

  pub all-right : (P : X → Type 0) (xs ys : List X) → AllByRecursion P (xs ++ ys) → AllByRecursion P ys
  all-right P [] ys h = h
  all-right P (x ∷ xs) ys h = all-right P xs ys h.1

  pub all-map : {Y : Type 0} (P : Y → Type 0) (R : X → Type 0) (f : X → Y) → ((x : X) → R x → P (f x)) → (xs : List X) → AllByRecursion R xs → AllByRecursion P (map f xs)
  all-map P R f h [] all = tt
  all-map P R f h (x ∷ xs) all = (h x all.0, all-map P R f h xs all.1)

  pub all-made : {Y : Type 0} (P : Y → Type 0) (f : X → Y) → ((x : X) → P (f x)) → (xs : List X) → AllByRecursion P (map f xs)
  all-made P f h [] = tt
  all-made P f h (x ∷ xs) = (h x, all-made P f h xs)

  pub all-unmap : {Y : Type 0} (P : Y → Type 0) (f : X → Y) (xs : List X) → AllByRecursion P (map f xs) → AllByRecursion (λ x. P (f x)) xs
  all-unmap P f [] all = tt
  all-unmap P f (x ∷ xs) all = (all.0, all-unmap P f xs all.1)

module _ {X Y : Type 0} where
  pub all-flat_map : (P : Y → Type 0) (R : X → Type 0) (f : X → List Y) → ((x : X) → R x → AllByRecursion P (f x)) → (xs : List X) → AllByRecursion R xs
      → AllByRecursion P (flat_map f xs)
  all-flat_map P R f h [] all = tt
  all-flat_map P R f h (x ∷ xs) all = all-append P (f x) (flat_map f xs) (h x all.0) (all-flat_map P R f h xs all.1)

-- Units of a row
pub both-units : (n mask : ℕ) → length (units_in n mask) + length (units_out n mask) ≡ n - 1
both-units n mask = length-filter_both (has_unit mask) (λ unit. not (has_unit mask unit)) (λ unit. refl) (units n) ∙ length-range_with_len 0 (n - 1)

pub granted-le : (us : List ℕ) (gs : List (Option Grant)) → length (granted_of (zip us gs)) ≤ length us
granted-le [] gs = omega arith
granted-le (u ∷ us) [] = omega arith
granted-le (u ∷ us) (Some g ∷ gs) = let h : length (granted_of (zip us gs)) ≤ length us = granted-le us gs in omega arith
granted-le (u ∷ us) (None ∷ gs) = let h : length (granted_of (zip us gs)) ≤ length us = granted-le us gs in omega arith

-- Bays
abbrev pub AreBelow : ℕ → List BayNo → Type 0
AreBelow n bays = AllByRecursion (λ (bay : BayNo). bay.0 < n) bays

pub parity-below : (n : ℕ) (row : RowNo) → 1 ≤ n → (parity_bay n row).0 < n
parity-below n row h = omega arith

pub bay-below : (n : ℕ) (row : RowNo) (unit : ℕ) → 1 ≤ n → (bay_of n row unit).0 < n
bay-below n row unit h = omega arith

pub bays-below : (n : ℕ) (row : RowNo) → 1 ≤ n → (us : List ℕ) → AreBelow n (bays_of n row us)
bays-below n row h us = all-made (λ (bay : BayNo). bay.0 < n) (bay_of n row) (λ unit. bay-below n row unit h) us

granted-below : (n : ℕ) (row : RowNo) → 1 ≤ n → (grant : Option Grant) → AreBelow n (parity_granted n row grant)
granted-below n row h None = tt
granted-below n row h (Some grant) = (parity-below n row h, tt)

one-parity : (n : ℕ) (row : RowNo) (grant : Option Grant) → length (parity_granted n row grant) ≤ 1
one-parity n row None = omega arith
one-parity n row (Some grant) = omega arith

module _ (n : ℕ) (least : 1 ≤ n) where
  all-granted-below : (row : Row) → AreBelow n (all_granted n row)
  all-granted-below row =
      let us : List ℕ = ascending n (wanted_granted n row) (others_granted n row) in
      all-append (λ (bay : BayNo). bay.0 < n) (bays_of n row.part.row us) (parity_granted n row.part.row row.parity)
      (bays-below n row.part.row least us) (granted-below n row.part.row least row.parity)

  claims-below : (row : Row) → AreBelow n (claims_granted n row)
  claims-below row =
      all-append (λ (bay : BayNo). bay.0 < n) (bays_of n row.part.row (wanted_granted n row)) (parity_granted n row.part.row row.parity)
      (bays-below n row.part.row least (wanted_granted n row)) (granted-below n row.part.row least row.parity)

  pub others-below : (row : Row) → AreBelow n (bays_of n row.part.row (others_granted n row))
  others-below row = bays-below n row.part.row least (others_granted n row)

  pub readers-below : (row : Row) → AreBelow n (row_readers n row)
  readers-below row =
      all-append (λ (bay : BayNo). bay.0 < n) (bays_of n row.part.row (wanted_granted n row) ++ parity_granted n row.part.row row.parity) (bays_of n row.part.row (others_granted n row))
      (claims-below row) (others-below row)

  pub write-holds-below : (mode : Mode) (row : Row) → AreBelow n (write_holds mode n row)
  write-holds-below Lock row = all-granted-below row
  write-holds-below Order row = claims-below row

  pub read-holds-below : (mode : Mode) (row : Row) → AreBelow n (read_holds mode n row)
  read-holds-below Lock row = all-granted-below row
  read-holds-below Order row = tt

  -- as many as there are bays at most
  wanted-le : (row : Row) → length (wanted_granted n row) ≤ length (units_in n row.part.mask)
  wanted-le row = granted-le (units_in n row.part.mask) row.wanted

  others-le : (row : Row) → length (others_granted n row) ≤ length (units_out n row.part.mask)
  others-le row = granted-le (units_out n row.part.mask) row.others

  all-granted-le : (row : Row) → length (all_granted n row) ≤ n
  all-granted-le row =
      let us : List ℕ = ascending n (wanted_granted n row) (others_granted n row) in
      omega (
        arith,
        length-append (bays_of n row.part.row us) (parity_granted n row.part.row row.parity),
        length-map us (bay_of n row.part.row),
        filter-le (λ unit. is_among (wanted_granted n row) unit || is_among (others_granted n row) unit) (units n),
        length-range_with_len 0 (n - 1),
        one-parity n row.part.row row.parity,
      )

  claims-le : (row : Row) → length (claims_granted n row) ≤ 1 + length (units_in n row.part.mask)
  claims-le row =
      omega (
        arith,
        length-append (bays_of n row.part.row (wanted_granted n row)) (parity_granted n row.part.row row.parity),
        length-map (wanted_granted n row) (bay_of n row.part.row),
        wanted-le row,
        one-parity n row.part.row row.parity,
      )

  pub other-bays-le : (row : Row) → length (bays_of n row.part.row (others_granted n row)) ≤ length (units_out n row.part.mask)
  other-bays-le row = omega (arith, length-map (others_granted n row) (bay_of n row.part.row), others-le row)

  pub readers-le : (row : Row) → length (row_readers n row) ≤ n
  readers-le row =
      omega (arith, length-append (claims_granted n row) (bays_of n row.part.row (others_granted n row)), claims-le row, other-bays-le row, both-units n row.part.mask)

  pub write-holds-le : (mode : Mode) (row : Row) → length (write_holds mode n row) ≤ n
  write-holds-le Lock row = all-granted-le row
  write-holds-le Order row = omega (arith, claims-le row, both-units n row.part.mask)

  pub read-holds-le : (mode : Mode) (row : Row) → length (read_holds mode n row) ≤ n
  read-holds-le Lock row = all-granted-le row
  read-holds-le Order row = omega arith

-- Rows and their parts
abbrev pub parts_of : List Row → List RowPart
parts_of rows = map (λ (row : Row). row.part) rows

-- the contents are no more than the units
pub contents-le : (n : ℕ) (rows : List Row) → length (contents_of n rows) ≤ sum_by (λ (part : RowPart). length (units_in n part.mask)) (parts_of rows)
contents-le n [] = omega arith
contents-le n (row ∷ rows) =
    omega (
      arith,
      length-append (row_contents n row) (contents_of n rows),
      row-le,
      contents-le n rows,
      sum_by-cons (λ (part : RowPart). length (units_in n part.mask)) row.part (parts_of rows),
    ) where
      row-le : length (row_contents n row) ≤ length (units_in n row.part.mask)
      row-le = omega (arith, length-map (zip (units_in n row.part.mask) row.wanted) (unit_content row), zip-le (units_in n row.part.mask) row.wanted)
