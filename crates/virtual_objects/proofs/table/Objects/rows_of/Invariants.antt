use Rattle.std.proofs.Common.{◌≡◌, drop}
use Rattle.virtual_objects.specs.Objects.{rows_of}
use Rattle.virtual_objects.proofs.table.Objects.rows_of.Given as goal

abbrev pub invariant-loop-object : goal.invariant-loop-object
invariant-loop-object l = rows_of l.object-items l.name ≡ rows_of (drop l.object-index l.object-items) l.name
