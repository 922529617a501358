use Rattle.std.proofs.Common.{◌≡◌, ◌+◌, sym, subst, List, true}
use Rattle.raid_base.specs.Numbers.{number}
use Rattle.slot_rules.specs.declared.opened.Open.{Open}
use Rattle.slot_rules.specs.Tables.{Table}
use Rattle.slot_rules.specs.Parts.{table_lost}
use Rattle.slot_rules.specs.Opens.{Keeping, slots_kept}
use Rattle.slot_rules.proofs.KeptRows.{keeping-lost, lost-is}
use Rattle.slot_rules.proofs.slots.Slots.lose.Goals as goal

pub invariant_of-self : goal.invariant_of-self
invariant_of-self c =
    subst (λ (os : List Open). Keeping (c.self.inside.state.life + 1) true c.self.inside.rows.items os) (sym c.clear.ensures.opens)
    (keeping-lost c.self.inside.state.life c.self.inside.state.empty c.self.inside.rows.items c.self.inside.open_rows.opens c.self.invariant)

pub returns : goal.returns
returns c =
    let new : Table = record {
      state = record c.self.inside.state { empty = true; life = c.self.inside.state.life + 1 };
      slots = slots_kept (c.self.inside.state.life + 1) (number 0) c.self.inside.rows.items c.clear.new.self.opens;
      order = c.clear.new.self.order;
    } in
    subst (λ (t : Table). new ≡ table_lost t) c.self.view_is
    (lost-is c.self.inside.state c.self.inside.bare c.self.inside.rows.items c.self.inside.open_rows.opens c.clear.new.self.opens c.self.inside.open_rows.order c.clear.new.self.order
    c.self.invariant c.if-self.false c.clear.ensures.opens c.clear.ensures.order)
