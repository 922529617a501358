use Rattle.std.proofs.Common.{◌≡◌, ◌∙◌, sym, ap, length, arith}
use Rattle.slot_rules.specs.Tables.{Table}
use Rattle.slot_rules.proofs.KeptRows.{kept-length}
use Rattle.slot_rules.proofs.slots.Slots.rows.Goals as goal

pub returns : goal.returns
returns c =
    let size = kept-length c.self.inside.state.life c.self.inside.state.empty c.self.inside.bare c.self.inside.rows.items c.self.inside.open_rows.opens c.self.invariant in
    let all : length c.args.self.now.slots ≡ length c.self.inside.rows.items = ap (λ (t : Table). length t.slots) (sym c.self.view_is) ∙ size.0 in
    omega arith
