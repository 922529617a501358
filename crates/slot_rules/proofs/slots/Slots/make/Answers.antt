use Rattle.std.proofs.Common.{◌≡◌, ◌∙◌, sym, ap, subst, List, length, replicate, false}
use Rattle.std.proofs.lemmas.List.{length-replicate}
use Rattle.raid_base.specs.Numbers.{number}
use Rattle.slot_rules.specs.declared.opened.Open.{Open}
use Rattle.slot_rules.specs.declared.slot.BayState.{BayState}
use Rattle.slot_rules.specs.declared.slots.RowState.{RowState}
use Rattle.slot_rules.specs.Slots.{Slot}
use Rattle.slot_rules.specs.Tables.{Kept, bay_of, slots_with, first_kept, closed}
use Rattle.slot_rules.specs.Opens.{Keeping, slots_kept, first_row}
use Rattle.slot_rules.proofs.TableLists.{slots-first}
use Rattle.slot_rules.proofs.KeptRows.{keeping-first, kept-first}
use Rattle.slot_rules.proofs.slots.Slots.make.Goals as goal

pub invariant_of-result : goal.invariant_of-result
invariant_of-result c =
    let rows : c.in_ok-rows.rows.items ≡ replicate c.args.rows first_row = c.in_ok-rows.ensures {u = tt} in
    let opens : c.in_ok-open_rows.open_rows.opens ≡ replicate c.args.rows closed = (c.in_ok-open_rows.ensures {u = tt}).opens in
    subst (λ (rs : List RowState). Keeping 0 false rs c.in_ok-open_rows.open_rows.opens) (sym rows)
    (subst (λ (os : List Open). Keeping 0 false (replicate c.args.rows first_row) os) (sym opens) (keeping-first c.args.rows))

pub returns-clause-first : goal.returns-clause-first
returns-clause-first c = λ blocks zero.
    let rows : c.in_ok-rows.rows.items ≡ replicate c.args.rows first_row = c.in_ok-rows.ensures {u = tt} in
    let opens : c.in_ok-open_rows.open_rows.opens ≡ replicate c.args.rows closed = (c.in_ok-open_rows.ensures {u = tt}).opens in
    let state : BayState = record { mode = c.args.mode; patience = c.args.patience; empty = false; high = number 0; life = 0 } in
    ap (λ (s : List Kept). bay_of state (slots_with s blocks))
    (ap (λ (rs : List RowState). slots_kept 0 (number 0) rs c.in_ok-open_rows.open_rows.opens) rows
    ∙ ap (λ (os : List Open). slots_kept 0 (number 0) (replicate c.args.rows first_row) os) opens ∙ kept-first c.args.rows)
    ∙ ap (λ (s : List Slot). bay_of state s) (slots-first c.args.rows blocks zero)

pub returns-clause-rows : goal.returns-clause-rows
returns-clause-rows c =
    let rows : c.in_ok-rows.rows.items ≡ replicate c.args.rows first_row = c.in_ok-rows.ensures {u = tt} in
    let opens : c.in_ok-open_rows.open_rows.opens ≡ replicate c.args.rows closed = (c.in_ok-open_rows.ensures {u = tt}).opens in
    ap (λ (rs : List RowState). length (slots_kept 0 (number 0) rs c.in_ok-open_rows.open_rows.opens)) rows
    ∙ ap (λ (os : List Open). length (slots_kept 0 (number 0) (replicate c.args.rows first_row) os)) opens
    ∙ ap (λ (s : List Kept). length s) (kept-first c.args.rows) ∙ length-replicate c.args.rows first_kept
