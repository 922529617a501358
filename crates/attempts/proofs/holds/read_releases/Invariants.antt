use Rattle.std.proofs.Common.{◌≡◌, ◌≤◌, ◌*◌, None, take, length}
use Rattle.std.specs.List.{flat_map}
use Rattle.attempts.specs.Taking.{Row as RowView}
use Rattle.attempts.specs.Releases.{releases, read_holds}
use Rattle.attempts.proofs.holds.read_releases.Given as goal

abbrev pub invariant-loop-row : goal.invariant-loop-row
invariant-loop-row l =
    (l.releases ≡ record { id = l.fn.id; number = None; errands = flat_map (λ (row : RowView). releases l.fn.id row.part.row None (read_holds l.mode l.n row)) (take l.row-index l.rows) })
    × (length l.releases.errands ≤ 16 * l.row-index)
