-- What the parity of a row is, and what it becomes.
use Rattle.std.specs.Prelude.{ℕ, List, fold, bit_or}
use Rattle.raid_base.specs.declared.cells.Cell.{Cell}
use Rattle.raid_base.specs.Cells.{zero_cell, without_unit}
use Rattle.raid_xor.specs.Sums.{xor_of}

-- the parity once a unit has changed from an old cell to new bytes
abbrev pub fold_small : Cell → Cell → List ℕ → ℕ → Cell
fold_small acc old new unit = record { bytes = xor_of (xor_of acc.bytes old.bytes) new; lost = without_unit acc.lost unit }

-- the parity with one more cell in it
abbrev pub fold_whole : Cell → Cell → Cell
fold_whole acc cell = record { bytes = xor_of acc.bytes cell.bytes; lost = bit_or acc.lost cell.lost }

-- the parity of these data cells
abbrev pub parity_of : List Cell → Cell
parity_of cells = fold fold_whole zero_cell cells
