use Rattle.std.proofs.Common.{◌≡◌, ◌∙◌, sym, ap, length, slice_index_or, arith}
use Rattle.raid_base.specs.Numbers.{number}
use Rattle.slot_rules.specs.declared.slots.RowState.{RowState}
use Rattle.slot_rules.specs.Tables.{Table, Kept, closed, bare_kept}
use Rattle.slot_rules.specs.Opens.{slot_in, figures}
use Rattle.slot_rules.proofs.KeptRows.{kept-length, kept-at}
use Rattle.slot_rules.proofs.slots.Slots.slot.Goals as goal

pub index-requires : goal.index-requires
index-requires c =
    let size = kept-length c.self.inside.state.life c.self.inside.state.empty c.self.inside.bare c.self.inside.rows.items c.self.inside.open_rows.opens c.self.invariant in
    let all : length c.args.self.now.slots ≡ length c.self.inside.rows.items = ap (λ (t : Table). length t.slots) (sym c.self.view_is) ∙ size.0 in
    omega (arith, c.from.ensures)

pub returns : goal.returns
returns c =
    let size = kept-length c.self.inside.state.life c.self.inside.state.empty c.self.inside.bare c.self.inside.rows.items c.self.inside.open_rows.opens c.self.invariant in
    let all : length c.args.self.now.slots ≡ length c.self.inside.rows.items = ap (λ (t : Table). length t.slots) (sym c.self.view_is) ∙ size.0 in
    c.slot.ensures
    ∙ ap (λ (r : RowState). slot_in c.self.inside.state.life c.self.inside.bare r) (c.index.ensures ∙ ap (λ n. slice_index_or c.self.inside.rows.items n c.index.result.now) c.from.ensures)
    ∙ sym (ap (λ (k : Kept). figures k)
    (kept-at c.self.inside.state.life c.self.inside.state.empty c.self.inside.bare c.self.inside.rows.items c.self.inside.open_rows.opens c.args.row.0 (bare_kept (number 0)) c.index.result.now closed c.self.invariant (omega arith)))
    ∙ ap (λ (t : Table). figures (slice_index_or t.slots c.args.row.0 (bare_kept (number 0)))) c.self.view_is
