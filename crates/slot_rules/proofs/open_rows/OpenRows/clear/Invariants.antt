use Rattle.std.proofs.Common.{◌≡◌, length}
use Rattle.slot_rules.specs.Opens.{KeepsFirst}
use Rattle.slot_rules.proofs.open_rows.OpenRows.clear.Given as goal

abbrev pub invariant-loop-self : goal.invariant-loop-self
invariant-loop-self l = KeepsFirst l.self-inside.entries.entries l.self-inside.count × (length l.self-inside.entries.entries ≡ length l.fn.self.opens)

abbrev pub decreases-loop-self : goal.decreases-loop-self
decreases-loop-self l = l.self-inside.count
