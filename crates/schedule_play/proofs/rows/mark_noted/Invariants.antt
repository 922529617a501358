use Rattle.std.proofs.Common.{◌≡◌}
use Rattle.std.specs.Prelude.{vec_len}
use Rattle.std.specs.Vec.{vec_capacity}
use Rattle.schedule_play.specs.Rows.{IsMarked}
use Rattle.schedule_play.proofs.OpenedLemmas.{marks_of}
use Rattle.schedule_play.proofs.rows.mark_noted.Given as goal

abbrev pub invariant-loop-k : goal.invariant-loop-k
invariant-loop-k g l =
    IsMarked l.fn.opened.items l.opened.items (marks_of l.bay l.first l.k) × (vec_len l.opened ≡ vec_len l.fn.opened) × (vec_capacity l.opened ≡ vec_capacity l.fn.opened)
