use Rattle.std.proofs.Common.{◌≡◌, sym, ap, ◌∙◌, length, slice_index_or, nat_eq, Option, Some, None, unwrap_or, arith}
use Rattle.std.specs.Map.{lookup}
use Rattle.slot_rules.specs.declared.opened.Open.{Open}
use Rattle.slot_rules.specs.Tables.{closed}
use Rattle.slot_rules.specs.Opens.{open_at, OpenTable}
use Rattle.slot_rules.proofs.OpenLists.{opens-length, opens-at}
use Rattle.slot_rules.proofs.OpenEntries.{lookup-there}
use Rattle.slot_rules.proofs.open_rows.OpenRows.at.Goals as goal

pub unreachable-requires : goal.unreachable-requires
unreachable-requires c =
    let size : length c.args.self.now.opens ≡ length c.self.inside.entries.entries = ap (λ (t : OpenTable). length t.opens) (sym c.self.view_is) ∙ opens-length c.self.inside.entries.entries in
    let found = lookup-there c.self.inside.entries.entries c.self.inside.count c.args.row c.self.invariant (omega arith) in
    let none : None ≡ lookup (nat_eq c.args.row) c.self.inside.entries.entries = (c.in-None.ensures {u = tt}).value in
    absurd (let bad : None ≡ Some (open_at c.self.inside.entries.entries c.args.row) = none ∙ found in cc)

pub returns : goal.returns
returns c =
    let size : length c.args.self.now.opens ≡ length c.self.inside.entries.entries = ap (λ (t : OpenTable). length t.opens) (sym c.self.view_is) ∙ opens-length c.self.inside.entries.entries in
    let some : Some c.in-Some.opened.now ≡ lookup (nat_eq c.args.row) c.self.inside.entries.entries = (c.in-Some.ensures {u = tt}).value in
    ap (λ (o : Option Open). unwrap_or o closed) some ∙ sym (opens-at c.self.inside.entries.entries c.args.row closed (omega arith))
    ∙ ap (λ (t : OpenTable). slice_index_or t.opens c.args.row closed) c.self.view_is
