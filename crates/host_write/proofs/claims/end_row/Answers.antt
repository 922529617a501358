use Rattle.std.proofs.Common.{◌≡◌, ◌+◌, ◌<◌, [], length, get_or, ap, sym, ◌∙◌, arith}
use Rattle.std.proofs.lemmas.List.{length_push, at_drop_all, get_or_read}
use Rattle.raid_base.specs.declared.jobs.RowPart.{RowPart}
use Rattle.attempts.specs.Accesses.{access_of}
use Rattle.attempts.specs.Parts.{blocks_in, is_part}
use Rattle.attempts.specs.Taking.{row_ended}
use Rattle.attempts.specs.Writing.{claim_rows, confirm_rows}
use Rattle.host_write.specs.Left.{row_at, confirmed_so_far}
use Rattle.host_write.proofs.ClaimLemmas.{part-at, part-most, row_begins, confirm_begins}
use Rattle.host_write.proofs.claims.end_row.Goals as goal

pub parity_claim-requires-clause-most : goal.parity_claim-requires-clause-most
parity_claim-requires-clause-most c =
    let job = c.args.job.now in
    let d : RowPart = record { row = record { 0 = 0 }; mask = 0; at = 0; count = 0 } in
    let k = length c.before-2.result.now + 1 in
    let fits : k < length job.parts.items = omega (arith, ap length c.deref.ensures.0) in
    part-most job.n (blocks_in job.parts.items) (get_or c.deref.result.now k d)
    (ap (λ ps. is_part job.n (blocks_in job.parts.items) (get_or ps k d)) c.deref.ensures.0 ∙ part-at job.n job.parts.items k d fits job.formed)

pub returns-then-at-len-clause-left : goal.returns-then-at-len-clause-left
returns-then-at-len-clause-left c = λ blocks puts.
    let t = c.args.taken.now in
    let parts = c.args.job.now.parts.items in
    let d : RowPart = record { row = record { 0 = 0 }; mask = 0; at = 0; count = 0 } in
    row_begins (access_of c.args.job.now blocks) (row_ended t) (length t.before + 1) d (get_or c.deref.result.now (length c.before-2.result.now + 1) d) c.next_row.new.self [] puts c.parity_claim.result
    (omega (arith, ap length c.before-2.ensures))
    (ap (λ ps. get_or ps (length c.before-2.result.now + 1) d) c.deref.ensures.0 ∙ ap (λ rows. get_or parts (length rows + 1) d) c.before-2.ensures)
    c.next_row.ensures
    c.parity_claim.ensures
    (length_push t.before t.row)

pub returns-else-at-len-clause-left : goal.returns-else-at-len-clause-left
returns-else-at-len-clause-left c = λ blocks puts.
    let t = c.args.taken.now in
    let a = access_of c.args.job.now blocks in
    let now = c.next_row-else-at-len.new.self in
    let rows : length now.before ≡ length t.before + 1 = ap (λ u. length u.before) c.next_row-else-at-len.ensures ∙ length_push t.before t.row in
    let some : 0 < length c.before-else-at-len.result.now = omega (arith, ap length c.before-else-at-len.ensures) in
    confirm_begins a now [] puts c.index-before-0.result c.row_confirm.result
    (omega arith)
    (get_or_read c.before-else-at-len.result.now 0 c.index-before-0.result some c.index-before-0.is _ ∙ ap (λ xs. row_at xs 0) c.before-else-at-len.ensures)
    c.row_confirm.ensures
    ∙ ap (λ u. confirm_rows a u.before u.before (confirmed_so_far u [])) c.next_row-else-at-len.ensures
    ∙ sym (at_drop_all (λ ps. claim_rows a ps (row_ended t)) c.args.job.now.parts.items (length t.before + 1) (omega (arith, ap length c.before-2.ensures)))
