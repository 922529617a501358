use Rattle.std.proofs.Common.{◌≡◌, ◌≤◌, ◌*◌, Some, take, length}
use Rattle.std.specs.List.{flat_map}
use Rattle.attempts.specs.Reading.{row_readers}
use Rattle.attempts.specs.Taking.{Row as RowView}
use Rattle.attempts.specs.Releases.{releases}
use Rattle.attempts.proofs.holds.numbered_releases.Given as goal

abbrev pub invariant-loop-row : goal.invariant-loop-row
invariant-loop-row l =
    (l.releases ≡ record { id = l.fn.id; number = Some l.fn.number; errands = flat_map (λ (row : RowView). releases l.fn.id row.part.row (Some l.fn.number) (row_readers l.n row)) (take l.row-index l.rows) })
    × (length l.releases.errands ≤ 31 * l.row-index)
