use Rattle.std.proofs.Common.{◌≡◌, ◌++◌, ◌+◌, ◌≤◌, drop, length, map, zip}
use Rattle.attempts.specs.Reading.{unit_content}
use Rattle.attempts.proofs.contents.push_row_contents.Given as goal

abbrev pub invariant-loop-i : goal.invariant-loop-i
invariant-loop-i l =
    (l.contents.items ++ map (unit_content l.row) (zip (drop l.i l.units.items) (drop l.i l.wanted)) ≡ l.initial.contents.items ++ map (unit_content l.row) (zip l.units.items l.wanted)) × (length l.contents.items ≤ length l.initial.contents.items + l.i)
