use Rattle.std.proofs.Common.{◌≡◌, ◌++◌, false, replicate}
use Rattle.std.specs.Vec.{vec_capacity}
use Rattle.schedule_play.proofs.rows.push_closed.Given as goal

abbrev pub invariant-loop-row : goal.invariant-loop-row
invariant-loop-row l = (l.opened.items ≡ l.fn.opened.items ++ replicate l._row false) × (vec_capacity l.opened ≡ vec_capacity l.fn.opened)
