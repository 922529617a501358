use Rattle.std.proofs.Common.{◌≡◌, sym, ap, subst, ◌∙◌, length, slice_get, Some, arith}
use Rattle.slot_rules.specs.Opens.{OpenTable, row_no}
use Rattle.slot_rules.proofs.OpenEntries.{order-at, order-length}
use Rattle.slot_rules.proofs.open_rows.OpenRows.row.Goals as goal

pub returns : goal.returns
returns c =
    let few = c.self.invariant.few in
    let size : length c.args.self.now.order ≡ c.self.inside.count = ap (λ (t : OpenTable). length t.order) (sym c.self.view_is) ∙ order-length c.self.inside.entries.entries c.self.inside.count few in
    let entry : slice_get c.self.inside.entries.entries c.args.k ≡ Some (c.in-Some.row.now, c.in-Some.field-0-1.now) =
    ap (λ n. slice_get c.self.inside.entries.entries n) (sym c.from.ensures) ∙ sym (c.in-Some.ensures {u = tt}).entry in
    subst (λ (t : OpenTable). slice_get t.order c.args.k ≡ Some (row_no c.in-Some.row.now)) c.self.view_is
    (order-at c.self.inside.entries.entries c.self.inside.count c.args.k c.in-Some.row.now c.in-Some.field-0-1.now (omega arith) entry)
