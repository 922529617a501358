use Rattle.std.proofs.Common.{◌≡◌, take, length}
use Rattle.virtual_objects.specs.Table.{numbers}
use Rattle.virtual_objects.specs.Marks.{Cleared}
use Rattle.virtual_objects.proofs.marks.clear_rows.Given as goal

abbrev pub invariant-loop-row : goal.invariant-loop-row
invariant-loop-row l = record { cleared : Cleared l.initial.marks (numbers (take l.row-index l.rows)) l.marks; len : length l.marks ≡ length l.initial.marks }
