use Rattle.std.proofs.Common.{◌≡◌, ◌+◌, ◌*◌, ◌++◌, length}
use Rattle.std.specs.Prelude.{vec_len}
use Rattle.std.specs.Vec.{vec_capacity}
use Rattle.schedule_play.specs.World.{AllTell}
use Rattle.schedule_play.specs.Rows.{cells_now, AreLookedAt}
use Rattle.schedule_play.proofs.rows.read_rows.Given as goal

abbrev pub invariant-loop-row : goal.invariant-loop-row
invariant-loop-row g l =
    AreLookedAt l.fn.bays l.bays
    × (AllTell l.fn.bays → l.cells.items ≡ l.fn.cells.items ++ cells_now l.row l.fn.bays)
    × (vec_len l.cells ≡ vec_len l.fn.cells + l.row * length l.fn.bays)
    × (vec_capacity l.cells ≡ vec_capacity l.fn.cells)
