use Rattle.std.proofs.Common.{get_or, refl, ap}
use Rattle.raid_base.specs.declared.jobs.RowPart.{RowPart}
use Rattle.attempts.specs.Taking.{Access, no_rows}
use Rattle.host_write.proofs.ClaimLemmas.{row_begins}
use Rattle.host_write.proofs.write_try.WriteTry.begin.Goals as goal

pub returns-clause-left : goal.returns-clause-left
returns-clause-left c = λ blocks.
    let a : Access = record { mode = c.args.mode; n = c.args.n; id = c.args.id; parts = c.args.parts.items; blocks = blocks } in
    let d : RowPart = record { row = record { 0 = 0 }; mask = 0; at = 0; count = 0 } in
    row_begins a no_rows 0 d (get_or c.deref.result.now 0 d) c.begin.result c.new.result c.new-2.result c.parity_claim-queue.result
    c.requires.parts.some
    (ap (λ ps. get_or ps 0 d) c.deref.ensures.0)
    c.begin.ensures
    c.parity_claim-queue.ensures
    refl
