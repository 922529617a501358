use Rattle.std.proofs.Common.{◌≡◌, ◌++◌, ◌+◌, false, replicate, take}
use Rattle.std.specs.Prelude.{vec_len}
use Rattle.std.specs.Vec.{vec_capacity}
use Rattle.schedule_play.specs.Rows.{IsMarked}
use Rattle.schedule_play.proofs.OpenedLemmas.{marked_by}
use Rattle.schedule_play.proofs.rows.read_open.Given as goal

abbrev pub invariant-loop-at : goal.invariant-loop-at
invariant-loop-at g l =
    IsMarked (l.fn.opened.items ++ replicate l.rows false) l.opened.items (marked_by (take l.at l.bays) l.first)
    × (vec_len l.opened ≡ vec_len l.fn.opened + l.rows)
    × (vec_capacity l.opened ≡ vec_capacity l.fn.opened)
