use Rattle.std.proofs.Common.{◌≡◌, replicate}
use Rattle.slot_rules.specs.Opens.{first_row}
use Rattle.slot_rules.proofs.slots.RowState.first_rows.Given as goal

abbrev pub invariant-loop-row : goal.invariant-loop-row
invariant-loop-row l = l.rows.items ≡ replicate l._row first_row
