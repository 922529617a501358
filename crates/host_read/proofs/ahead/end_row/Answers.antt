use Rattle.std.proofs.Common.{◌+◌, [], length, get_or, ap, ◌∙◌, arith}
use Rattle.std.proofs.lemmas.List.{length_push}
use Rattle.raid_base.specs.declared.jobs.RowPart.{RowPart}
use Rattle.attempts.specs.Accesses.{access_of}
use Rattle.attempts.specs.Taking.{row_ended}
use Rattle.host_read.proofs.ReadLemmas.{row_begins}
use Rattle.host_read.proofs.ahead.end_row.Goals as goal

pub returns-then-at-len-clause-left : goal.returns-then-at-len-clause-left
returns-then-at-len-clause-left c =
    let t = c.args.taken.now in
    let parts = c.args.job.now.parts.items in
    let d : RowPart = record { row = record { 0 = 0 }; mask = 0; at = 0; count = 0 } in
    row_begins (access_of c.args.job.now []) (row_ended t) (length t.before + 1) d (get_or c.deref.result.now (length c.before-2.result.now + 1) d) c.next_row.new.self c.wanted_shares.result
    (omega (arith, ap length c.before-2.ensures))
    (ap (λ ps. get_or ps (length c.before-2.result.now + 1) d) c.deref.ensures.0 ∙ ap (λ rows. get_or parts (length rows + 1) d) c.before-2.ensures)
    c.next_row.ensures
    c.wanted_shares.ensures.value
    (length_push t.before t.row)
