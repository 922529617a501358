use Rattle.std.proofs.Common.{subst}
use Rattle.slot_rules.specs.Tables.{Table}
use Rattle.slot_rules.specs.Opens.{ListsOpen}
use Rattle.slot_rules.proofs.KeptRows.{lists-slots}
use Rattle.slot_rules.proofs.slots.Slots.open_rows.Goals as goal

pub returns-clause-listed : goal.returns-clause-listed
returns-clause-listed c =
    subst (λ (t : Table). ListsOpen t.order t.slots) c.self.view_is
    (lists-slots c.self.inside.state.life c.self.inside.state.empty c.self.inside.bare c.self.inside.rows.items c.self.inside.open_rows.opens c.self.inside.open_rows.order c.self.invariant c.len.ensures.lists)
