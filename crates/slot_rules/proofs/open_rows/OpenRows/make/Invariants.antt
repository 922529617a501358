use Rattle.std.proofs.Common.{◌≡◌}
use Rattle.slot_rules.proofs.OpenEntries.{fresh}
use Rattle.slot_rules.proofs.open_rows.OpenRows.make.Given as goal

abbrev pub invariant-loop-row : goal.invariant-loop-row
invariant-loop-row l = l.entries.entries ≡ fresh l.row
