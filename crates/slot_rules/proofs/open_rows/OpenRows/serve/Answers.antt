use Rattle.std.proofs.Common.{◌≡◌, ◌<◌, ℕ, sym, ap, subst, ◌∙◌, List, length, slice_index_or, slice_set, nat_eq, arith}
use Rattle.std.specs.List.{IsDistinct}
use Rattle.std.proofs.lemmas.Option.{slice_get_within}
use Rattle.slot_rules.specs.declared.opened.Open.{Open}
use Rattle.slot_rules.specs.Tables.{closed, kept_slot}
use Rattle.slot_rules.specs.Opens.{opens_of, OpenTable}
use Rattle.slot_rules.specs.Parts.{ServedSlot}
use Rattle.slot_rules.proofs.OpenLists.{opens-length, opens-at}
use Rattle.slot_rules.proofs.OpenEntries.{length-value_at, keys-value_at, first-others, keeps-settled, opens-written, read_by}
use Rattle.slot_rules.proofs.open_rows.OpenRows.serve.Goals as goal

pub place_of-place-requires : goal.place_of-place-requires
place_of-place-requires c =
    let size : length c.args.self.now.opens ≡ length c.self.inside.entries.entries = ap (λ (t : OpenTable). length t.opens) (sym c.self.view_is) ∙ opens-length c.self.inside.entries.entries in
    let row = c.requires.row in
    c.self.invariant.there c.args.row (omega arith)

pub index_mut-requires : goal.index_mut-requires
index_mut-requires c = slice_get_within c.self.inside.entries.entries c.place_of-place.result _ c.place_of-place.ensures

pub settle-self-inside-requires-clause-within : goal.settle-self-inside-requires-clause-within
settle-self-inside-requires-clause-within c =
    let at = slice_get_within c.self.inside.entries.entries c.place_of-place.result _ c.place_of-place.ensures in
    subst (λ n. c.place_of-place.result < n) (sym (length-value_at c.self.inside.entries.entries c.place_of-place.result c.serve-reply.new.opened)) at

pub settle-self-inside-requires-clause-few : goal.settle-self-inside-requires-clause-few
settle-self-inside-requires-clause-few c =
    let few = c.self.invariant.few in omega (arith, length-value_at c.self.inside.entries.entries c.place_of-place.result c.serve-reply.new.opened)

pub settle-self-inside-requires-clause-narrow : goal.settle-self-inside-requires-clause-narrow
settle-self-inside-requires-clause-narrow c =
    let narrow = c.self.invariant.narrow in omega (arith, length-value_at c.self.inside.entries.entries c.place_of-place.result c.serve-reply.new.opened)

pub settle-self-inside-requires-clause-unique : goal.settle-self-inside-requires-clause-unique
settle-self-inside-requires-clause-unique c =
    subst (λ (ks : List ℕ). IsDistinct nat_eq ks) (sym (keys-value_at c.self.inside.entries.entries c.place_of-place.result c.serve-reply.new.opened)) c.self.invariant.distinct

pub settle-self-inside-requires-clause-first : goal.settle-self-inside-requires-clause-first
settle-self-inside-requires-clause-first c =
    first-others c.self.inside.entries.entries c.self.inside.count c.place_of-place.result c.serve-reply.new.opened c.self.invariant.first

pub invariant_of-self : goal.invariant_of-self
invariant_of-self c =
    keeps-settled c.self.inside.entries.entries c.settle-self-inside.new.entries.entries c.self.inside.count c.settle-self-inside.result c.place_of-place.result c.serve-reply.new.opened
    c.self.invariant c.settle-self-inside.ensures.same.0 c.settle-self-inside.ensures.same.1 c.settle-self-inside.ensures.same.2 c.settle-self-inside.ensures.unique
    c.settle-self-inside.ensures.first c.settle-self-inside.ensures.few

pub returns-clause-served : goal.returns-clause-served
returns-clause-served c =
    let row = c.requires.row in
    let size : length c.args.self.now.opens ≡ length c.self.inside.entries.entries = ap (λ (t : OpenTable). length t.opens) (sym c.self.view_is) ∙ opens-length c.self.inside.entries.entries in
    let low : c.args.row < length c.self.inside.entries.entries = omega arith in
    let count : length c.settle-self-inside.new.entries.entries ≡ length c.self.inside.entries.entries =
    c.settle-self-inside.ensures.same.1 ∙ length-value_at c.self.inside.entries.entries c.place_of-place.result c.serve-reply.new.opened in
    let written = opens-written c.self.inside.entries.entries c.settle-self-inside.new.entries.entries c.place_of-place.result c.args.row _ c.serve-reply.new.opened
    c.self.invariant.distinct c.place_of-place.ensures low count c.settle-self-inside.ensures.same.2 in
    let before : c.index_mut.result.now ≡ slice_index_or c.args.self.now.opens c.args.row closed =
    read_by c.self.inside.entries.entries c.place_of-place.result c.args.row c.index_mut.result.now c.place_of-place.ensures c.index_mut.ensures.value
    ∙ sym (opens-at c.self.inside.entries.entries c.args.row closed low) ∙ ap (λ (t : OpenTable). slice_index_or t.opens c.args.row closed) c.self.view_is in
    let after : c.serve-reply.new.opened ≡ slice_index_or (opens_of c.settle-self-inside.new.entries.entries) c.args.row closed =
    sym written.0 ∙ sym (opens-at c.settle-self-inside.new.entries.entries c.args.row closed (omega arith)) in
    subst (λ (o : Open). ServedSlot c.args.state.now c.args.ask.now c.args.cell (kept_slot c.args.slot.now (slice_index_or c.args.self.now.opens c.args.row closed)) c.serve-reply.result (kept_slot c.serve-reply.new.self o)) after
    (subst (λ (o : Open). ServedSlot c.args.state.now c.args.ask.now c.args.cell (kept_slot c.args.slot.now o) c.serve-reply.result (kept_slot c.serve-reply.new.self c.serve-reply.new.opened)) before c.serve-reply.ensures)

pub returns-clause-others : goal.returns-clause-others
returns-clause-others c =
    let row = c.requires.row in
    let size : length c.args.self.now.opens ≡ length c.self.inside.entries.entries = ap (λ (t : OpenTable). length t.opens) (sym c.self.view_is) ∙ opens-length c.self.inside.entries.entries in
    let low : c.args.row < length c.self.inside.entries.entries = omega arith in
    let count : length c.settle-self-inside.new.entries.entries ≡ length c.self.inside.entries.entries =
    c.settle-self-inside.ensures.same.1 ∙ length-value_at c.self.inside.entries.entries c.place_of-place.result c.serve-reply.new.opened in
    let written = opens-written c.self.inside.entries.entries c.settle-self-inside.new.entries.entries c.place_of-place.result c.args.row _ c.serve-reply.new.opened
    c.self.invariant.distinct c.place_of-place.ensures low count c.settle-self-inside.ensures.same.2 in
    written.1
    ∙ ap (λ (os : List Open). slice_set os c.args.row c.serve-reply.new.opened) (ap (λ (t : OpenTable). t.opens) c.self.view_is)
    ∙ ap (λ (o : Open). slice_set c.args.self.now.opens c.args.row o) (sym written.0 ∙ sym (opens-at c.settle-self-inside.new.entries.entries c.args.row closed (omega arith)))
