-- The rows of an object.
use Rattle.std.proofs.Common.{◌≡◌, ℕ, ◌++◌, ◌∷◌, [], ◌+◌, ◌≤◌, ◌<◌, List, get_or, length, map, arith, subst, sym, refl, ap, ◌∙◌}
use Rattle.std.specs.Prelude.{All}
use Rattle.std.specs.List.{range_with_len}
use Rattle.std.proofs.lemmas.List.FromFn.{length-map-range_with_len, get_or-map-range_with_len, map-range_with_len_more}
use Rattle.raid_base.specs.declared.numbers.RowNo.{RowNo}
use Rattle.load_maker.specs.Load.{half}

-- one more row
pub half-more : (row k : ℕ) (rows later : List RowNo) → rows ≡ map (λ (r : ℕ). record { 0 = r }) (range_with_len row k) → later ≡ rows ++ record { 0 = row + k } ∷ [] → later ≡ map (λ (r : ℕ). record { 0 = r }) (range_with_len row (k + 1))
half-more row k rows later r l =
    l ∙ ap (λ (rs : List RowNo). rs ++ record { 0 = row + k } ∷ []) r ∙ sym (map-range_with_len_more {X = RowNo} (λ (r : ℕ). record { 0 = r }) row k (row + k) refl)

pub half-is : (row k : ℕ) (rows : List RowNo) → rows ≡ map (λ (r : ℕ). record { 0 = r }) (range_with_len row k) → k ≤ 256 → 256 ≤ k → rows ≡ half row
unfolding half
half-is row k rows r most least =
    let same : k ≡ 256 = omega arith in
    r ∙ ap (λ (n : ℕ). map (λ (r : ℕ). record { 0 = r }) (range_with_len row n)) same

pub length-half : (row : ℕ) → length (half row) ≡ 256
unfolding half
length-half row = length-map-range_with_len {X = RowNo} (λ (r : ℕ). record { 0 = r }) row 256

pub half-some : (row : ℕ) → 0 < length (half row)
half-some row = omega (arith, length-half row)

pub half-at : (row k : ℕ) (d : RowNo) → k < 256 → get_or (half row) k d ≡ record { 0 = row + k }
unfolding half
half-at row k d h = get_or-map-range_with_len {X = RowNo} (λ (r : ℕ). record { 0 = r }) row 256 k (row + k) d h refl

pub half-below : (row : ℕ) → row ≤ 256 → All (λ (r : RowNo). r.0 < 512) (half row)
half-below row most k d h =
    let few : k < 256 = omega (arith, length-half row) in
    subst (λ (r : RowNo). r.0 < 512) (sym (half-at row k d few)) (omega arith)
