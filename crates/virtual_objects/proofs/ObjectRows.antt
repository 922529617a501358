-- The parts of some jobs.
use Rattle.std.proofs.Common.{◌≡◌, ℕ, ◌+◌, List, [], ◌∷◌, Some, Ok, Err, refl}
use Rattle.raid_base.specs.declared.numbers.RowNo.{RowNo}
use Rattle.raid_base.specs.declared.names.Name.{Name}
use Rattle.raid_base.specs.declared.jobs.PartsFault.TheVariants.{NoObject, PastEnd}
use Rattle.virtual_objects.specs.Objects.{Object, parts, place}

abbrev row : ℕ → RowNo
row k = record { 0 = k }

abbrev name : ℕ → Name
name k = (96 + k) ∷ []

abbrev objects : List Object
objects = record { name = name 1; rows = row 3 ∷ row 0 ∷ row 2 ∷ [] } ∷ []

-- blocks 3 to 8 of an object with four units a row
some_parts : parts 5 objects (name 1) 3 6
    ≡ Ok (record { row = row 3; mask = 8; at = 0; count = 1 } ∷ record { row = row 0; mask = 15; at = 1; count = 4 } ∷ record { row = row 2; mask = 1; at = 5; count = 1 } ∷ [])
some_parts = refl

past : parts 5 objects (name 1) 10 3 ≡ Err (PastEnd 12)
past = refl

nameless : parts 5 objects (name 2) 0 1 ≡ Err NoObject
nameless = refl

placed : place 5 objects (record { object = name 1; block = 6 }) ≡ Some (row 0, 2)
placed = refl
