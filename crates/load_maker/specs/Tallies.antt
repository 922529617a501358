-- Counts of what blocks show, taken one by one.
use Rattle.std.specs.Prelude.{◌+◌, List, fold}
use Rattle.raid_base.specs.Cells.{zeros}
use Rattle.raid_base.specs.declared.cells.Content.TheVariants as contents
use Rattle.raid_base.specs.declared.cells.Shown.{Shown}
use Rattle.raid_base.specs.declared.cells.Shown.TheVariants.{Seen, Hidden}
use Rattle.raid_xor.specs.Sums.{xor_of}
use Rattle.load_maker.specs.declared.tally.Tally.{Tally}

abbrev pub no_blocks : Tally
no_blocks = record { lost = 0; hidden = 0; sum = zeros }

-- with what is shown of one more
abbrev pub with_block : Tally → Shown → Tally
with_block tally (Seen (contents.Bytes bytes)) = record { lost = tally.lost; hidden = tally.hidden; sum = xor_of tally.sum bytes }
with_block tally (Seen contents.Lost) = record { lost = tally.lost + 1; hidden = tally.hidden; sum = tally.sum }
with_block tally Hidden = record { lost = tally.lost; hidden = tally.hidden + 1; sum = tally.sum }

abbrev pub with_blocks : Tally → List Shown → Tally
with_blocks tally shown = fold with_block tally shown
