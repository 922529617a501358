-- The parts of a job in some rows of an object.
use Rattle.std.proofs.Common.{◌≡◌, ◌∙◌, sym, ap, refl, subst, ℕ, zero, suc, ◌+◌, ◌-◌, ◌*◌, ◌/◌, ◌%◌, ◌<◌, ◌≤◌, min, max, arith, true, List, [], ◌∷◌, ◌++◌, map, length, get_or, All, sum_by, Option, Some, slice_get, flat_map}
use Rattle.std.specs.List.{range_with_len}
use Rattle.std.proofs.lemmas.List.{append-nil, map-append}
use Rattle.std.proofs.lemmas.List.Sums.{sum_by-cons}
use Rattle.std.proofs.lemmas.List.Elements.{All-cons, All-nil}
use Rattle.std.proofs.lemmas.List.FromFn.{length-range_with_len, get_or-range_with_len}
use Rattle.std.proofs.lemmas.Nat.{div-mul-add, mod-mul-add, mul-le}
use Rattle.raid_base.specs.declared.numbers.RowNo.{RowNo}
use Rattle.raid_base.specs.declared.jobs.RowPart.{RowPart}
use Rattle.stripe_layout.specs.Placement.{units_in}
use Rattle.raid_base.specs.Cells.{has_unit}
use Rattle.virtual_objects.specs.Objects.{part_at, parts_from, placed_in, rank}
use Rattle.virtual_objects.specs.RowParts.{part_rows, part_places, IsPart, AreInTurn}
use Rattle.virtual_objects.proofs.MaskLemmas.{range-split, units_of_run, run_within, rank-run, run_has}

-- Some of a job's blocks stand in the row at an index, d blocks a row: the job has those from first on and before last.
pub record Meets (d first last index : ℕ) : Type 0 where
  pub units : 1 ≤ d
  pub starts : first < index * d + d
  pub ends : index * d < last
  pub some : first < last

-- how they lie in the row
pub record Lies (d first last index : ℕ) : Type 0 where
  pub first_low : first ≤ max first (index * d)
  pub start_low : index * d ≤ max first (index * d)
  pub low_high : max first (index * d) < min last (index * d + d)
  pub high_last : min last (index * d + d) ≤ last
  pub high_end : min last (index * d + d) ≤ index * d + d

pub lies : (d first last index : ℕ) → Meets d first last index → Lies d first last index
lies d first last index m = record {
  first_low = omega arith;
  start_low = omega arith;
  low_high = omega arith;
  high_last = omega arith;
  high_end = omega arith;
}

-- the units of a part
pub part_units : (n d first last index : ℕ) (row : RowNo) → n - 1 ≡ d → Meets d first last index
    → units_in n (part_at d first last index row).mask ≡ range_with_len (max first (index * d) - index * d) (min last (index * d + d) - max first (index * d))
part_units n d first last index row e m =
    let l = lies d first last index m in
    units_of_run n (max first (index * d) - index * d) (min last (index * d + d) - index * d) (omega arith) (omega arith)
    ∙ ap (range_with_len (max first (index * d) - index * d)) (let f : (min last (index * d + d) - index * d) - (max first (index * d) - index * d) ≡ min last (index * d + d) - max first (index * d) = omega arith in f)

pub part_is : (n d first last index : ℕ) (row : RowNo) → n - 1 ≡ d → Meets d first last index → IsPart n (part_at d first last index row)
part_is n d first last index row e m =
    let l = lies d first last index m in
    record {
      some = omega arith;
      within = run_within (max first (index * d) - index * d) (min last (index * d + d) - index * d) (n - 1) (omega arith) (omega arith);
      counted = ap length (part_units n d first last index row e m) ∙ length-range_with_len _ _;
    }

-- where a block of the row stands
pub placed_at : (d index block : ℕ) (rows : List RowNo) (row : RowNo) → index * d ≤ block → block < index * d + d → slice_get rows index ≡ Some row
    → placed_in d block (slice_get rows (block / d)) ≡ Some (row, block - index * d)
placed_at d index block rows row a b e =
    let cut : block ≡ index * d + (block - index * d) = omega arith in
    let quotient : block / d ≡ index = ap (λ x. x / d) cut ∙ div-mul-add index d (block - index * d) (omega arith) in
    let remainder : block % d ≡ block - index * d = ap (λ x. x % d) cut ∙ mod-mul-add index d (block - index * d) (omega arith) in
    rw (quotient, e) (ap (λ (u : ℕ). Some (row, u)) remainder)

pub map-range_same : {X : Type 0} (f g : ℕ → X) (a b n : ℕ) → ((k : ℕ) → k < n → f (a + k) ≡ g (b + k)) → map f (range_with_len a n) ≡ map g (range_with_len b n)
map-range_same f g a b zero h = refl
map-range_same f g a b (suc n) h =
    let head : f a ≡ g b = (let x : a + 0 ≡ a = omega arith in let y : b + 0 ≡ b = omega arith in ap f (sym x) ∙ h 0 (omega arith) ∙ ap g y) in
    let tail : map f (range_with_len (a + 1) n) ≡ map g (range_with_len (b + 1) n) =
    map-range_same f g (a + 1) (b + 1) n (λ k less.
    (let x : a + 1 + k ≡ a + (k + 1) = omega arith in let y : b + 1 + k ≡ b + (k + 1) = omega arith in ap f x ∙ h (k + 1) (omega arith) ∙ ap g (sym y))) in
    rw (head, tail) refl

-- a part's places are those of its blocks
pub part_covers : (n d first last index : ℕ) (rows : List RowNo) (row : RowNo) → n - 1 ≡ d → Meets d first last index → slice_get rows index ≡ Some row
    → map (λ (at : RowNo × ℕ). Some at) (part_places n (part_at d first last index row))
    ≡ map (λ block. placed_in d block (slice_get rows (block / d))) (range_with_len (max first (index * d)) (min last (index * d + d) - max first (index * d)))
part_covers n d first last index rows row e m at =
    let l = lies d first last index m in
    ap (λ (us : List ℕ). map (λ (p : RowNo × ℕ). Some p) (map (λ (unit : ℕ). (row, unit)) us)) (part_units n d first last index row e m)
    ∙ map-map _
    ∙ map-range_same (λ (unit : ℕ). Some (row, unit)) (λ block. placed_in d block (slice_get rows (block / d))) (max first (index * d) - index * d) (max first (index * d)) _ (λ k less.
    (let unit : (max first (index * d) - index * d) + k ≡ (max first (index * d) + k) - index * d = omega arith in
    ap (λ (u : ℕ). Some (row, u)) unit ∙ sym (placed_at d index (max first (index * d) + k) rows row (omega arith) (omega arith) at)))
  where
    map-map : (us : List ℕ) → map (λ (p : RowNo × ℕ). Some p) (map (λ (unit : ℕ). (row, unit)) us) ≡ map (λ (unit : ℕ). Some (row, unit)) us
    map-map [] = refl
    map-map (u ∷ us) = ap (λ (xs : List (Option (RowNo × ℕ))). Some (row, u) ∷ xs) (map-map us)

add_one_mul : (i w : ℕ) → (i + 1) * w ≡ i * w + w
add_one_mul i w = omega arith

-- The rows of a job: at an index, with as many rows as end in the one of its last block.
pub record Spans (d first last index len : ℕ) : Type 0 where
  pub units : 1 ≤ d
  pub starts : first < index * d + d
  pub last_row : (index + len) * d < last
  pub last_end : last ≤ (index + len) * d + d
  pub some : first < last

pub meets : (d first last index len : ℕ) → Spans d first last index len → Meets d first last index
meets d first last index len s = record {
  units = s.units;
  starts = s.starts;
  ends = (let more : index * d ≤ (index + len) * d = mul-le index d (index + len) d (omega arith) (omega arith) in let e = s.last_row in omega arith);
  some = s.some;
}

pub spans-next : (d first last index len : ℕ) → Spans d first last index (suc len) → Spans d first last (index + 1) len
spans-next d first last index len s =
    let e : index + suc len ≡ index + 1 + len = omega arith in
    record {
      units = s.units;
      starts = (let f : (index + 1) * d ≡ index * d + d = add_one_mul index d in let g = s.starts in omega arith);
      last_row = rw e at s.last_row;
      last_end = rw e at s.last_end;
      some = s.some;
    }

-- where the row isn't the last, it is had to its end, and the next is had from its start
pub high-next : (d first last index len : ℕ) → Spans d first last index (suc len) → min last (index * d + d) ≡ max first ((index + 1) * d)
high-next d first last index len s =
    let f : (index + 1) * d ≡ index * d + d = add_one_mul index d in
    let m : (index + 1) * d ≤ (index + suc len) * d = mul-le (index + 1) d (index + suc len) d (omega arith) (omega arith) in
    let a = s.starts in let b = s.last_row in
    omega arith

pub high-last : (d first last index : ℕ) → Spans d first last index 0 → min last (index * d + d) ≡ last
high-last d first last index s =
    let a = s.last_end in
    let e : (index + 0) * d ≡ index * d = ap (λ (i : ℕ). i * d) (let f : index + 0 ≡ index = omega arith in f) in
    omega arith

-- some rows are those of an object from an index on
abbrev pub StandsAt : List RowNo → ℕ → List RowNo → Type 0
StandsAt rows index some = (k : ℕ) (row : RowNo) → slice_get some k ≡ Some row → slice_get rows (index + k) ≡ Some row

stands-head : (rows : List RowNo) (index : ℕ) (row : RowNo) (more : List RowNo) → StandsAt rows index (row ∷ more) → slice_get rows index ≡ Some row
stands-head rows index row more h = (let e : index + 0 ≡ index = omega arith in rw e at (h 0 row refl))

stands-tail : (rows : List RowNo) (index : ℕ) (row : RowNo) (more : List RowNo) → StandsAt rows index (row ∷ more) → StandsAt rows (index + 1) more
stands-tail rows index row more h = λ k r is. (let e : index + 1 + k ≡ index + suc k = omega arith in rw e (h (suc k) r is))

pub rows-same : (d first last index : ℕ) (rs : List RowNo) → part_rows (parts_from d first last index rs) ≡ rs
rows-same d first last index [] = refl
rows-same d first last index (row ∷ rs) = ap (λ (xs : List RowNo). row ∷ xs) (rows-same d first last (index + 1) rs)

pub each-part : (n d first last index : ℕ) (row : RowNo) (rs : List RowNo) → n - 1 ≡ d → Spans d first last index (length rs) → All (IsPart n) (parts_from d first last index (row ∷ rs))
each-part n d first last index row [] e s = All-cons (IsPart n) _ [] (part_is n d first last index row e (meets d first last index 0 s)) (All-nil (IsPart n))
each-part n d first last index row (next ∷ rs) e s =
    All-cons (IsPart n) (part_at d first last index row) (parts_from d first last (index + 1) (next ∷ rs)) (part_is n d first last index row e (meets d first last index _ s)) (each-part n d first last (index + 1) next rs e (spans-next d first last index _ s))

pub in-turn : (d first last index : ℕ) (row : RowNo) (rs : List RowNo) → Spans d first last index (length rs) → AreInTurn (max first (index * d) - first) (parts_from d first last index (row ∷ rs))
in-turn d first last index row [] s = (refl, tt)
in-turn d first last index row (next ∷ rs) s =
    let l = lies d first last index (meets d first last index _ s) in
    let h = high-next d first last index (length rs) s in
    let at : max first ((index + 1) * d) - first ≡ (max first (index * d) - first) + (min last (index * d + d) - max first (index * d)) = omega arith in
    (refl, subst (λ (a : ℕ). AreInTurn a (parts_from d first last (index + 1) (next ∷ rs))) at (in-turn d first last (index + 1) next rs (spans-next d first last index _ s)))

pub counts : (d first last index : ℕ) (row : RowNo) (rs : List RowNo) → Spans d first last index (length rs)
    → sum_by (λ (part : RowPart). part.count) (parts_from d first last index (row ∷ rs)) ≡ last - max first (index * d)
counts d first last index row [] s =
    let l = lies d first last index (meets d first last index _ s) in
    let h = high-last d first last index s in
    omega arith
counts d first last index row (next ∷ rs) s =
    let l = lies d first last index (meets d first last index _ s) in
    let h = high-next d first last index (length rs) s in
    let rest : sum_by (λ (part : RowPart). part.count) (parts_from d first last (index + 1) (next ∷ rs)) ≡ last - max first ((index + 1) * d) = counts d first last (index + 1) next rs (spans-next d first last index _ s) in
    sum_by-cons (λ (part : RowPart). part.count) (part_at d first last index row) (parts_from d first last (index + 1) (next ∷ rs))
    ∙ ap (λ (m : ℕ). (min last (index * d + d) - max first (index * d)) + m) rest
    ∙ (let e : (min last (index * d + d) - max first (index * d)) + (last - max first ((index + 1) * d)) ≡ last - max first (index * d) = omega arith in e)

-- the places of a job's units, row by row, are those of its blocks
pub covers-from : (n d first last index : ℕ) (rows : List RowNo) (row : RowNo) (rs : List RowNo) → n - 1 ≡ d → Spans d first last index (length rs) → StandsAt rows index (row ∷ rs)
    → map (λ (at : RowNo × ℕ). Some at) (flat_map (part_places n) (parts_from d first last index (row ∷ rs)))
    ≡ map (λ block. placed_in d block (slice_get rows (block / d))) (range_with_len (max first (index * d)) (last - max first (index * d)))
covers-from n d first last index rows row [] e s at =
    let h = high-last d first last index s in
    ap (map (λ (p : RowNo × ℕ). Some p)) (append-nil (part_places n (part_at d first last index row)))
    ∙ part_covers n d first last index rows row e (meets d first last index _ s) (stands-head rows index row [] at)
    ∙ ap (λ (high : ℕ). map (λ block. placed_in d block (slice_get rows (block / d))) (range_with_len (max first (index * d)) (high - max first (index * d)))) h
covers-from n d first last index rows row (next ∷ rs) e s at =
    let l = lies d first last index (meets d first last index _ s) in
    let h = high-next d first last index (length rs) s in
    let place : ℕ → Option (RowNo × ℕ) = λ block. placed_in d block (slice_get rows (block / d)) in
    let low : ℕ = max first (index * d) in
    let high : ℕ = min last (index * d + d) in
    let rest : map (λ (p : RowNo × ℕ). Some p) (flat_map (part_places n) (parts_from d first last (index + 1) (next ∷ rs))) ≡ map place (range_with_len high (last - high)) =
    covers-from n d first last (index + 1) rows next rs e (spans-next d first last index _ s) (stands-tail rows index row (next ∷ rs) at)
    ∙ ap (λ (a : ℕ). map place (range_with_len a (last - a))) (sym h) in
    let cut : range_with_len low (last - low) ≡ range_with_len low (high - low) ++ range_with_len high (last - high) =
    (let x : last - low ≡ (high - low) + (last - high) = omega arith in
    let y : low + (high - low) ≡ high = omega arith in
    ap (range_with_len low) x ∙ range-split low (high - low) (last - high) ∙ ap (λ (a : ℕ). range_with_len low (high - low) ++ range_with_len a (last - high)) y) in
    map-append (λ (p : RowNo × ℕ). Some p) (part_places n (part_at d first last index row)) (flat_map (part_places n) (parts_from d first last (index + 1) (next ∷ rs)))
    ∙ ap (λ (xs : List (Option (RowNo × ℕ))). xs ++ map (λ (p : RowNo × ℕ). Some p) (flat_map (part_places n) (parts_from d first last (index + 1) (next ∷ rs))))
    (part_covers n d first last index rows row e (meets d first last index _ s) (stands-head rows index row (next ∷ rs) at))
    ∙ ap (λ (xs : List (Option (RowNo × ℕ))). map place (range_with_len low (high - low)) ++ xs) rest
    ∙ sym (map-append place (range_with_len low (high - low)) (range_with_len high (last - high)))
    ∙ ap (map place) (sym cut)

-- where the blocks of a part stand
abbrev pub HasPlaces : ℕ → ℕ → ℕ → List RowNo → RowPart → Type 0
HasPlaces n d first rows part = (k : ℕ) → k < part.count → placed_in d (first + part.at + k) (slice_get rows ((first + part.at + k) / d)) ≡ Some (part.row, get_or (units_in n part.mask) k 0)

pub part_placed : (n d first last index : ℕ) (rows : List RowNo) (row : RowNo) → n - 1 ≡ d → Meets d first last index → slice_get rows index ≡ Some row → HasPlaces n d first rows (part_at d first last index row)
part_placed n d first last index rows row e m at = λ k less.
    let l = lies d first last index m in
    let block : first + (max first (index * d) - first) + k ≡ max first (index * d) + k = omega arith in
    let unit : get_or (units_in n (part_at d first last index row).mask) k 0 ≡ (max first (index * d) + k) - index * d =
    ap (λ (us : List ℕ). get_or us k 0) (part_units n d first last index row e m)
    ∙ get_or-range_with_len (max first (index * d) - index * d) _ k 0 less
    ∙ (let x : (max first (index * d) - index * d) + k ≡ (max first (index * d) + k) - index * d = omega arith in x) in
    ap (λ (b : ℕ). placed_in d b (slice_get rows (b / d))) block
    ∙ placed_at d index (max first (index * d) + k) rows row (omega arith) (omega arith) at
    ∙ ap (λ (u : ℕ). Some (row, u)) (sym unit)

pub each-placed : (n d first last index : ℕ) (rows : List RowNo) (row : RowNo) (rs : List RowNo) → n - 1 ≡ d → Spans d first last index (length rs) → StandsAt rows index (row ∷ rs)
    → All (HasPlaces n d first rows) (parts_from d first last index (row ∷ rs))
each-placed n d first last index rows row [] e s at =
    All-cons (HasPlaces n d first rows) (part_at d first last index row) [] (part_placed n d first last index rows row e (meets d first last index _ s) (stands-head rows index row [] at)) (All-nil (HasPlaces n d first rows))
each-placed n d first last index rows row (next ∷ rs) e s at =
    All-cons (HasPlaces n d first rows) (part_at d first last index row) (parts_from d first last (index + 1) (next ∷ rs))
    (part_placed n d first last index rows row e (meets d first last index _ s) (stands-head rows index row (next ∷ rs) at))
    (each-placed n d first last (index + 1) rows next rs e (spans-next d first last index _ s) (stands-tail rows index row (next ∷ rs) at))

-- where the block of a unit stands
abbrev pub HasRanks : ℕ → ℕ → ℕ → List RowNo → RowPart → Type 0
HasRanks n d first rows part = (unit : ℕ) → has_unit part.mask unit ≡ true
    → placed_in d (first + (part.at + rank unit (units_in n part.mask))) (slice_get rows ((first + (part.at + rank unit (units_in n part.mask))) / d)) ≡ Some (part.row, unit)

pub part_ranked : (n d first last index : ℕ) (rows : List RowNo) (row : RowNo) → n - 1 ≡ d → Meets d first last index → slice_get rows index ≡ Some row → HasRanks n d first rows (part_at d first last index row)
part_ranked n d first last index rows row e m at = λ unit has.
    let l = lies d first last index m in
    let inside = run_has (max first (index * d) - index * d) (min last (index * d + d) - index * d) unit has in
    let place : rank unit (units_in n (part_at d first last index row).mask) ≡ unit - (max first (index * d) - index * d) =
    ap (rank unit) (part_units n d first last index row e m)
    ∙ rank-run (max first (index * d) - index * d) _ unit inside.0 (let i = inside.1 in omega arith) in
    let block : first + ((max first (index * d) - first) + rank unit (units_in n (part_at d first last index row).mask)) ≡ index * d + unit = (let i = inside.0 in omega arith) in
    ap (λ (b : ℕ). placed_in d b (slice_get rows (b / d))) block
    ∙ placed_at d index (index * d + unit) rows row (omega arith) (let i = inside.1 in omega arith) at
    ∙ ap (λ (u : ℕ). Some (row, u)) (let x : index * d + unit - index * d ≡ unit = omega arith in x)

pub each-ranked : (n d first last index : ℕ) (rows : List RowNo) (row : RowNo) (rs : List RowNo) → n - 1 ≡ d → Spans d first last index (length rs) → StandsAt rows index (row ∷ rs)
    → All (HasRanks n d first rows) (parts_from d first last index (row ∷ rs))
each-ranked n d first last index rows row [] e s at =
    All-cons (HasRanks n d first rows) (part_at d first last index row) [] (part_ranked n d first last index rows row e (meets d first last index _ s) (stands-head rows index row [] at)) (All-nil (HasRanks n d first rows))
each-ranked n d first last index rows row (next ∷ rs) e s at =
    All-cons (HasRanks n d first rows) (part_at d first last index row) (parts_from d first last (index + 1) (next ∷ rs))
    (part_ranked n d first last index rows row e (meets d first last index _ s) (stands-head rows index row (next ∷ rs) at))
    (each-ranked n d first last (index + 1) rows next rs e (spans-next d first last index _ s) (stands-tail rows index row (next ∷ rs) at))
