-- The rows of an attempt in one list, which the row in hand is in too.
use Rattle.std.specs.Prelude.{ℕ, List, slice_index_or}
use Rattle.attempts.specs.Taking.{Row, fresh_row}

-- the row at a place
abbrev pub row_at : List Row → ℕ → Row
row_at rows at = slice_index_or rows at (fresh_row (record { row = record { 0 = 0 }; mask = 0; at = 0; count = 0 }))
