use Rattle.std.proofs.Common.{◌≡◌, ◌++◌, ◌+◌, ◌≤◌, take, length}
use Rattle.attempts.specs.Reading.{cells_in}
use Rattle.attempts.proofs.contents.push_cells.Given as goal

abbrev pub invariant-loop-grant : goal.invariant-loop-grant
invariant-loop-grant l = (l.cells.items ≡ l.initial.cells.items ++ cells_in (take l.grant-index l.grants)) × (length l.cells.items ≤ length l.initial.cells.items + l.grant-index)
