-- A table of marks, one for each row.
use Rattle.std.specs.Prelude.{◌≡◌, ℕ, Bool, false, if◌then◌else◌, List, ◌++◌, slice_index_or, Option, IsSome, IsNone}
use Rattle.raid_base.specs.declared.numbers.RowNo.{RowNo}
use Rattle.virtual_objects.specs.Table.{numbers, is_held, first_used}

-- the marks are those of the rows that are held
pub record IsMarked (marks : List Bool) (rows : List ℕ) : Type 0 where
  pub at : (row : ℕ) → slice_index_or marks row false ≡ is_held rows row

-- What becomes of the marks when more rows are to be held: where one is used already it is told, and the marks stay.
pub record Marks (rows : List ℕ) (more : List RowNo) (used : Option RowNo) (marks : List Bool) : Type 0 where
  pub told : used ≡ first_used rows more
  pub marked : IsNone used → IsMarked marks (rows ++ numbers more)
  pub kept : IsSome used → IsMarked marks rows

-- the marks of some rows are gone
pub record Cleared (old : List Bool) (rows : List ℕ) (new : List Bool) : Type 0 where
  pub at : (row : ℕ) → slice_index_or new row false ≡ (if is_held rows row then false else slice_index_or old row false)
