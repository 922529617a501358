use Rattle.std.proofs.Common.{◌≡◌, ◌∙◌, sym, ap, length, slice_index_or, arith}
use Rattle.raid_base.specs.Numbers.{number}
use Rattle.slot_rules.specs.Tables.{Table, Kept, closed, bare_kept}
use Rattle.slot_rules.specs.Opens.{open_part, first_row}
use Rattle.slot_rules.proofs.KeptRows.{kept-length, kept-at}
use Rattle.slot_rules.proofs.slots.Slots.opened.Goals as goal

pub at-requires : goal.at-requires
at-requires c =
    let size = kept-length c.self.inside.state.life c.self.inside.state.empty c.self.inside.bare c.self.inside.rows.items c.self.inside.open_rows.opens c.self.invariant in
    let all : length c.args.self.now.slots ≡ length c.self.inside.rows.items = ap (λ (t : Table). length t.slots) (sym c.self.view_is) ∙ size.0 in
    omega (arith, size.1)

pub returns : goal.returns
returns c =
    let size = kept-length c.self.inside.state.life c.self.inside.state.empty c.self.inside.bare c.self.inside.rows.items c.self.inside.open_rows.opens c.self.invariant in
    let all : length c.args.self.now.slots ≡ length c.self.inside.rows.items = ap (λ (t : Table). length t.slots) (sym c.self.view_is) ∙ size.0 in
    c.at.ensures
    ∙ sym (ap (λ (k : Kept). open_part k)
    (kept-at c.self.inside.state.life c.self.inside.state.empty c.self.inside.bare c.self.inside.rows.items c.self.inside.open_rows.opens c.args.row.0 (bare_kept (number 0)) first_row closed c.self.invariant (omega arith)))
    ∙ ap (λ (t : Table). open_part (slice_index_or t.slots c.args.row.0 (bare_kept (number 0)))) c.self.view_is
