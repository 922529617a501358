use Rattle.std.proofs.Common.{◌≡◌, ◌<◌, ◌∙◌, ℕ, sym, ap, subst, length, slice_index_or, slice_set, arith}
use Rattle.std.proofs.lemmas.List.{length-set}
use Rattle.raid_base.specs.declared.numbers.Number.{Number}
use Rattle.slot_rules.specs.declared.slot.SlotState.{SlotState}
use Rattle.slot_rules.specs.declared.slots.RowState.{RowState}
use Rattle.slot_rules.specs.Rules.{raised}
use Rattle.slot_rules.specs.Tables.{Table, closed, kept_slot}
use Rattle.slot_rules.specs.Parts.{ServedSlot, ServedRow}
use Rattle.slot_rules.specs.Opens.{Keeping, slot_in, slots_kept, row_after}
use Rattle.slot_rules.proofs.TableLists.{read-own}
use Rattle.slot_rules.proofs.KeptRows.{kept-served, kept-length}
use Rattle.slot_rules.proofs.slots.Slots.serve.Goals as goal

pub index-requires : goal.index-requires
index-requires c =
    let row = c.requires.row in
    let size = kept-length c.self.inside.state.life c.self.inside.state.empty c.self.inside.bare c.self.inside.rows.items c.self.inside.open_rows.opens c.self.invariant in
    let all : length c.args.self.now.slots ≡ length c.self.inside.rows.items = ap (λ (t : Table). length t.slots) (sym c.self.view_is) ∙ size.0 in
    omega arith

pub serve-reply-requires-clause-row : goal.serve-reply-requires-clause-row
serve-reply-requires-clause-row c =
    let row = c.requires.row in
    let size = kept-length c.self.inside.state.life c.self.inside.state.empty c.self.inside.bare c.self.inside.rows.items c.self.inside.open_rows.opens c.self.invariant in
    let all : length c.args.self.now.slots ≡ length c.self.inside.rows.items = ap (λ (t : Table). length t.slots) (sym c.self.view_is) ∙ size.0 in
    omega (arith, size.1)

pub index_mut-requires : goal.index_mut-requires
index_mut-requires c =
    let row = c.requires.row in
    let size = kept-length c.self.inside.state.life c.self.inside.state.empty c.self.inside.bare c.self.inside.rows.items c.self.inside.open_rows.opens c.self.invariant in
    let all : length c.args.self.now.slots ≡ length c.self.inside.rows.items = ap (λ (t : Table). length t.slots) (sym c.self.view_is) ∙ size.0 in
    omega arith

pub invariant_of-self : goal.invariant_of-self
invariant_of-self c =
    let low = c.requires.row in
    let state = c.self.inside.state in
    let bare = c.self.inside.bare in
    let rows = c.self.inside.rows.items in
    let opens = c.self.inside.open_rows.opens in
    let size = kept-length state.life state.empty bare rows opens c.self.invariant in
    let all : length c.args.self.now.slots ≡ length rows = ap (λ (t : Table). length t.slots) (sym c.self.view_is) ∙ size.0 in
    let within : c.args.row.0 < length rows = omega arith in
    let r = c.index.result.now in
    let slot = c.serve-reply.new.slot in
    let new = c.serve-reply.new.self.opens in
    let read : r ≡ slice_index_or rows c.args.row.0 r = c.index.ensures ∙ ap (λ n. slice_index_or rows n r) c.from-place.ensures in
    let again : c.index_mut.result.now ≡ r =
    c.index_mut.ensures.value ∙ ap (λ n. slice_index_or rows n c.index_mut.result.now) c.from-place.ensures ∙ read-own rows c.args.row.0 c.index_mut.result.now r within ∙ sym read in
    let left : c.keep.new.self ≡ row_after state.life slot.mark slot r = c.keep.ensures ∙ ap (λ (x : RowState). row_after state.life slot.mark slot x) again in
    let before : c.slot-before.result ≡ slot_in state.life bare r = c.slot-before.ensures in
    let high : c.raised-self-inside.result ≡ raised (raised state.high (slot_in state.life bare r).read_no slot.read_no) (slot_in state.life bare r).write_no slot.write_no =
    c.raised-self-inside.ensures ∙ ap (λ (h : Number). raised h c.slot-before.result.write_no slot.write_no) c.raised-high.ensures
    ∙ ap (λ (x : SlotState). raised (raised state.high x.read_no slot.read_no) x.write_no slot.write_no) before in
    let kept = kept-served state bare rows opens new c.self.inside.open_rows.order c.serve-reply.new.self.order c.args.row c.args.ask.now c.args.cell c.serve-reply.result slot r c.raised-self-inside.result
    c.self.invariant within read c.serve-reply.ensures.others
    (subst (λ (x : SlotState). ServedSlot state c.args.ask.now c.args.cell (kept_slot x (slice_index_or opens c.args.row.0 closed)) c.serve-reply.result (kept_slot slot (slice_index_or new c.args.row.0 closed))) before
    c.serve-reply.ensures.served) high in
    subst (λ n. Keeping state.life state.empty (slice_set rows n c.keep.new.self) new) (sym c.from-place.ensures)
    (subst (λ (x : RowState). Keeping state.life state.empty (slice_set rows c.args.row.0 x) new) (sym left) kept.keeping)

pub returns-clause-served : goal.returns-clause-served
returns-clause-served c =
    let low = c.requires.row in
    let state = c.self.inside.state in
    let bare = c.self.inside.bare in
    let rows = c.self.inside.rows.items in
    let opens = c.self.inside.open_rows.opens in
    let size = kept-length state.life state.empty bare rows opens c.self.invariant in
    let all : length c.args.self.now.slots ≡ length rows = ap (λ (t : Table). length t.slots) (sym c.self.view_is) ∙ size.0 in
    let within : c.args.row.0 < length rows = omega arith in
    let r = c.index.result.now in
    let slot = c.serve-reply.new.slot in
    let new = c.serve-reply.new.self.opens in
    let read : r ≡ slice_index_or rows c.args.row.0 r = c.index.ensures ∙ ap (λ n. slice_index_or rows n r) c.from-place.ensures in
    let again : c.index_mut.result.now ≡ r =
    c.index_mut.ensures.value ∙ ap (λ n. slice_index_or rows n c.index_mut.result.now) c.from-place.ensures ∙ read-own rows c.args.row.0 c.index_mut.result.now r within ∙ sym read in
    let left : c.keep.new.self ≡ row_after state.life slot.mark slot r = c.keep.ensures ∙ ap (λ (x : RowState). row_after state.life slot.mark slot x) again in
    let before : c.slot-before.result ≡ slot_in state.life bare r = c.slot-before.ensures in
    let high : c.raised-self-inside.result ≡ raised (raised state.high (slot_in state.life bare r).read_no slot.read_no) (slot_in state.life bare r).write_no slot.write_no =
    c.raised-self-inside.ensures ∙ ap (λ (h : Number). raised h c.slot-before.result.write_no slot.write_no) c.raised-high.ensures
    ∙ ap (λ (x : SlotState). raised (raised state.high x.read_no slot.read_no) x.write_no slot.write_no) before in
    let kept = kept-served state bare rows opens new c.self.inside.open_rows.order c.serve-reply.new.self.order c.args.row c.args.ask.now c.args.cell c.serve-reply.result slot r c.raised-self-inside.result
    c.self.invariant within read c.serve-reply.ensures.others
    (subst (λ (x : SlotState). ServedSlot state c.args.ask.now c.args.cell (kept_slot x (slice_index_or opens c.args.row.0 closed)) c.serve-reply.result (kept_slot slot (slice_index_or new c.args.row.0 closed))) before
    c.serve-reply.ensures.served) high in
    let view : ℕ → RowState → Table = λ n x.
    record { state = record state { high = c.raised-self-inside.result }; slots = slots_kept state.life bare (slice_set rows n x) new; order = c.serve-reply.new.self.order } in
    subst (λ n. ServedRow c.args.row c.args.ask.now c.args.cell c.args.self.now c.serve-reply.result (view n c.keep.new.self)) (sym c.from-place.ensures)
    (subst (λ (x : RowState). ServedRow c.args.row c.args.ask.now c.args.cell c.args.self.now c.serve-reply.result (view c.args.row.0 x)) (sym left)
    (subst (λ (t : Table). ServedRow c.args.row c.args.ask.now c.args.cell t c.serve-reply.result (view c.args.row.0 (row_after state.life slot.mark slot r))) c.self.view_is kept.served))

pub returns-clause-rows : goal.returns-clause-rows
returns-clause-rows c =
    let low = c.requires.row in
    let state = c.self.inside.state in
    let bare = c.self.inside.bare in
    let rows = c.self.inside.rows.items in
    let opens = c.self.inside.open_rows.opens in
    let size = kept-length state.life state.empty bare rows opens c.self.invariant in
    let all : length c.args.self.now.slots ≡ length rows = ap (λ (t : Table). length t.slots) (sym c.self.view_is) ∙ size.0 in
    let within : c.args.row.0 < length rows = omega arith in
    let r = c.index.result.now in
    let slot = c.serve-reply.new.slot in
    let new = c.serve-reply.new.self.opens in
    let read : r ≡ slice_index_or rows c.args.row.0 r = c.index.ensures ∙ ap (λ n. slice_index_or rows n r) c.from-place.ensures in
    let again : c.index_mut.result.now ≡ r =
    c.index_mut.ensures.value ∙ ap (λ n. slice_index_or rows n c.index_mut.result.now) c.from-place.ensures ∙ read-own rows c.args.row.0 c.index_mut.result.now r within ∙ sym read in
    let left : c.keep.new.self ≡ row_after state.life slot.mark slot r = c.keep.ensures ∙ ap (λ (x : RowState). row_after state.life slot.mark slot x) again in
    let before : c.slot-before.result ≡ slot_in state.life bare r = c.slot-before.ensures in
    let high : c.raised-self-inside.result ≡ raised (raised state.high (slot_in state.life bare r).read_no slot.read_no) (slot_in state.life bare r).write_no slot.write_no =
    c.raised-self-inside.ensures ∙ ap (λ (h : Number). raised h c.slot-before.result.write_no slot.write_no) c.raised-high.ensures
    ∙ ap (λ (x : SlotState). raised (raised state.high x.read_no slot.read_no) x.write_no slot.write_no) before in
    let kept = kept-served state bare rows opens new c.self.inside.open_rows.order c.serve-reply.new.self.order c.args.row c.args.ask.now c.args.cell c.serve-reply.result slot r c.raised-self-inside.result
    c.self.invariant within read c.serve-reply.ensures.others
    (subst (λ (x : SlotState). ServedSlot state c.args.ask.now c.args.cell (kept_slot x (slice_index_or opens c.args.row.0 closed)) c.serve-reply.result (kept_slot slot (slice_index_or new c.args.row.0 closed))) before
    c.serve-reply.ensures.served) high in
    let after = kept-length state.life state.empty bare (slice_set rows c.args.row.0 (row_after state.life slot.mark slot r)) new kept.keeping in
    ap (λ n. length (slots_kept state.life bare (slice_set rows n c.keep.new.self) new)) c.from-place.ensures
    ∙ ap (λ (x : RowState). length (slots_kept state.life bare (slice_set rows c.args.row.0 x) new)) left
    ∙ after.0 ∙ length-set rows c.args.row.0 (row_after state.life slot.mark slot r) ∙ sym all
