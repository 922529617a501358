use Rattle.std.proofs.Common.{◌≡◌, ◌+◌, ◌++◌, take}
use Rattle.std.specs.Prelude.{vec_len}
use Rattle.std.specs.Vec.{vec_capacity}
use Rattle.schedule_play.specs.World.{AllTell}
use Rattle.schedule_play.specs.Rows.{row_now, AreLookedAt}
use Rattle.schedule_play.proofs.rows.read_row.Given as goal

abbrev pub invariant-loop-at : goal.invariant-loop-at
invariant-loop-at g l =
    AreLookedAt l.fn.bays l.bays
    × (AllTell l.fn.bays → l.cells.items ≡ l.fn.cells.items ++ row_now (take l.at l.fn.bays) l.row)
    × (vec_len l.cells ≡ vec_len l.fn.cells + l.at)
    × (vec_capacity l.cells ≡ vec_capacity l.fn.cells)
