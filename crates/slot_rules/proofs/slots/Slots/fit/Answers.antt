use Rattle.std.proofs.Common.{◌≡◌, subst, false}
use Rattle.slot_rules.specs.Tables.{Table}
use Rattle.slot_rules.specs.Parts.{table_fitted}
use Rattle.slot_rules.specs.Opens.{Keeping, slots_kept}
use Rattle.slot_rules.proofs.KeptRows.{keeping-fitted, fitted-is}
use Rattle.slot_rules.proofs.slots.Slots.fit.Goals as goal

pub invariant_of-self : goal.invariant_of-self
invariant_of-self c =
    keeping-fitted c.self.inside.state.life c.self.inside.rows.items c.self.inside.open_rows.opens
    (subst (λ b. Keeping c.self.inside.state.life b c.self.inside.rows.items c.self.inside.open_rows.opens) c.if-not-self.false c.self.invariant)

pub returns : goal.returns
returns c =
    let new : Table = record {
      state = record c.self.inside.state { empty = false };
      slots = slots_kept c.self.inside.state.life c.self.inside.state.high c.self.inside.rows.items c.self.inside.open_rows.opens;
      order = c.self.inside.open_rows.order;
    } in
    subst (λ (t : Table). new ≡ table_fitted t) c.self.view_is
    (fitted-is c.self.inside.state c.self.inside.bare c.self.inside.rows.items c.self.inside.open_rows.opens c.self.inside.open_rows.order c.self.invariant c.if-not-self.false)
