-- The lines of blocks, object by object.
use Rattle.std.proofs.Common.{◌≡◌, ℕ, zero, suc, ◌<◌, ◌≤◌, List, [], ◌∷◌, ◌++◌, length, get_or, refl, ap, ◌∙◌, arith, length-append}
use Rattle.raid_base.specs.declared.numbers.RowNo.{RowNo}
use Rattle.virtual_objects.specs.Objects.{Object}
use Rattle.virtual_objects.specs.Table.{ObjectTable, AreObjects, held, numbers}
use Rattle.std.specs.List.{flat_map}
use Rattle.std.proofs.lemmas.Grind.{flat_map-append}
use Rattle.std.proofs.lemmas.List.{length-map}
use Rattle.std.proofs.lemmas.Map.Steps.{length-le_from_distinct_below}

pub flat_map-flat_map : {X Y : Type 0} (h : Y → List ℕ) (g : X → List Y) (xs : List X) → flat_map h (flat_map g xs) ≡ flat_map (λ x. flat_map h (g x)) xs
flat_map-flat_map h g [] = refl
flat_map-flat_map h g (x ∷ xs) = flat_map-append h (g x) (flat_map g xs) ∙ ap (λ z. flat_map h (g x) ++ z) (flat_map-flat_map h g xs)

rows-among : (objects : List Object) (i : ℕ) (d : Object) → i < length objects → length (get_or objects i d).rows ≤ length (held objects)
rows-among [] i d h = absurd (omega arith)
rows-among (object ∷ objects) zero d h = omega (arith, length-append (numbers object.rows) (held objects), length-map object.rows (λ (row : RowNo). row.0))
rows-among (object ∷ objects) (suc i) d h = omega (arith, length-append (numbers object.rows) (held objects), rows-among objects i d (omega arith))

-- an object has no more rows than there are
pub rows-short : (table : ObjectTable) (i : ℕ) (d : Object) → AreObjects table → i < length table.objects → length (get_or table.objects i d).rows ≤ 4096
rows-short table i d are h =
    omega (arith, rows-among table.objects i d h, length-le_from_distinct_below (held table.objects) table.rows are.rows_apart are.rows_below, are.rows_most)
