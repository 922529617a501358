use Rattle.std.proofs.Common.{◌≡◌, ◌+◌, ◌++◌, drop, length}
use Rattle.virtual_objects.specs.Objects.{parts_from}
use Rattle.virtual_objects.proofs.parts.parts_from.Given as goal

abbrev pub invariant-loop-i : goal.invariant-loop-i
invariant-loop-i l = record {
  all : parts_from l.units l.first l.last l.index l.rows ≡ l.parts.items ++ parts_from l.units l.first l.last (l.index + l.i) (drop l.i l.rows);
  so_far : length l.parts.items ≡ l.i;
}
