-- What is shown of blocks, added one by one.
use Rattle.std.proofs.Common.{◌≡◌, ℕ, ◌+◌, ◌-◌, ◌%◌, ◌/◌, ◌<◌, ◌≤◌, List, [], ◌∷◌, ◌++◌, map, take, get_or, length, Option, Some, None, sym, ap, ◌∙◌, refl, arith, append-nil}
use Rattle.std.specs.Prelude.{slice_get}
use Rattle.std.specs.List.{flat_map}
use Rattle.std.proofs.lemmas.List.{take_more, map-append}
use Rattle.std.proofs.lemmas.List.FromFn.{map-range_with_len_more}
use Rattle.std.proofs.lemmas.List.Concat.{flat_map-append}
use Rattle.raid_base.specs.declared.names.Name.{Name}
use Rattle.raid_base.specs.declared.numbers.RowNo.{RowNo}
use Rattle.raid_base.specs.declared.cells.Shown.{Shown}
use Rattle.virtual_objects.specs.Objects.{Object, Address, place, place_in, placed_in, rows_of}
use Rattle.report_text.specs.Views.{first_blocks, object_blocks}
use Rattle.load_maker.specs.declared.tally.Tally.{Tally}
use Rattle.load_maker.specs.Tallies.{with_block, with_blocks}

abbrev unit_of : ℕ → Option (RowNo × ℕ) → ℕ
unit_of other None = other
unit_of other (Some (row, unit)) = unit

-- where a block stands, its unit is one of the row
unit-in : (d block unit : ℕ) (row : RowNo) (found : Option RowNo) → 0 < d → Some (row, unit) ≡ placed_in d block found → unit < d
unit-in d block unit row None h e = absurd (cc)
unit-in d block unit row (Some r) h e =
    let same : unit ≡ block % d = ap (unit_of unit) e in
    omega arith

unit-placed : (d block unit : ℕ) (row : RowNo) (rows : Option (List RowNo)) → 0 < d → Some (row, unit) ≡ place_in d block rows → unit < d
unit-placed d block unit row None h e = absurd (cc)
unit-placed d block unit row (Some rows) h e = unit-in d block unit row (slice_get rows (block / d)) h e

pub unit-below : (n : ℕ) (objects : List Object) (address : Address) (row : RowNo) (unit : ℕ) → 3 ≤ n → Some (row, unit) ≡ place n objects address → unit < n - 1
unit-below n objects address row unit h e = unit-placed (n - 1) address.block unit row (rows_of objects address.object) (omega arith) e

-- one block more
fold-push : (tally : Tally) (xs : List Shown) (x : Shown) → with_blocks tally (xs ++ x ∷ []) ≡ with_block (with_blocks tally xs) x
fold-push tally [] x = refl
fold-push tally (y ∷ ys) x = fold-push (with_block tally y) ys x

fold-append : (tally : Tally) (xs ys : List Shown) → with_blocks tally (xs ++ ys) ≡ with_blocks (with_blocks tally xs) ys
fold-append tally [] ys = refl
fold-append tally (x ∷ xs) ys = fold-append (with_block tally x) xs ys

first-more : (object : Name) (block : ℕ) → first_blocks object (block + 1) ≡ first_blocks object block ++ record { object = object; block = block } ∷ []
first-more object block = map-range_with_len_more {X = Address} (λ (b : ℕ). record { object = object; block = b }) 0 block block (omega arith)

pub block-more : (start now later : Tally) (f : Address → Shown) (object : Name) (block : ℕ) (shown : Shown) → now ≡ with_blocks start (map f (first_blocks object block)) → shown ≡ f (record { object = object; block = block }) → later ≡ with_block now shown → later ≡ with_blocks start (map f (first_blocks object (block + 1)))
block-more start now later f object block shown n s l =
    l
    ∙ ap (λ (t : Tally). with_block t shown) n
    ∙ ap (with_block (with_blocks start (map f (first_blocks object block)))) s
    ∙ sym (fold-push start (map f (first_blocks object block)) (f (record { object = object; block = block })))
    ∙ ap (with_blocks start) (sym (map-append f (first_blocks object block) (record { object = object; block = block } ∷ [])))
    ∙ ap (λ (xs : List Address). with_blocks start (map f xs)) (sym (first-more object block))

-- one object more
pub object-more : (start now later : Tally) (f : Address → Shown) (n : ℕ) (objects : List Object) (i : ℕ) (object : Object) → i < length objects → object ≡ get_or objects i object → now ≡ with_blocks start (map f (flat_map (object_blocks n) (take i objects))) → later ≡ with_blocks now (map f (object_blocks n object)) → later ≡ with_blocks start (map f (flat_map (object_blocks n) (take (i + 1) objects)))
object-more start now later f n objects i object h is t l =
    let before : List Address = flat_map (object_blocks n) (take i objects) in
    let taken : flat_map (object_blocks n) (take (i + 1) objects) ≡ before ++ object_blocks n object =
    ap (flat_map (object_blocks n)) (take_more objects i object h) ∙ flat_map-append (object_blocks n) (take i objects) (get_or objects i object ∷ []) ∙ ap (λ (xs : List Address). before ++ xs) (append-nil (object_blocks n (get_or objects i object)) ∙ ap (object_blocks n) (sym is)) in
    l
    ∙ ap (λ (s : Tally). with_blocks s (map f (object_blocks n object))) t
    ∙ sym (fold-append start (map f before) (map f (object_blocks n object)))
    ∙ ap (with_blocks start) (sym (map-append f before (object_blocks n object)))
    ∙ ap (λ (xs : List Address). with_blocks start (map f xs)) (sym taken)
