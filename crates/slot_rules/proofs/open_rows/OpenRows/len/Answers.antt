use Rattle.std.proofs.Common.{subst, length}
use Rattle.slot_rules.specs.Opens.{OpenTable, Lists, is_open_at}
use Rattle.slot_rules.proofs.OpenEntries.{lists-open}
use Rattle.slot_rules.proofs.open_rows.OpenRows.len.Goals as goal

pub returns-clause-lists : goal.returns-clause-lists
returns-clause-lists c =
    subst (λ (t : OpenTable). Lists t.order (length t.opens) (is_open_at t.opens)) c.self.view_is (lists-open c.self.inside.entries.entries c.self.inside.count c.self.invariant)
