use Rattle.std.proofs.Common.{[], get_or, refl, ap}
use Rattle.raid_base.specs.declared.jobs.RowPart.{RowPart}
use Rattle.attempts.specs.Taking.{Access, no_rows}
use Rattle.host_read.proofs.ReadLemmas.{row_begins}
use Rattle.host_read.proofs.read_try.ReadTry.renew.Goals as goal

pub returns : goal.returns
returns c =
    let a : Access = record { mode = c.args.mode; n = c.args.n; id = c.args.id; parts = c.args.parts.items; blocks = [] } in
    let d : RowPart = record { row = record { 0 = 0 }; mask = 0; at = 0; count = 0 } in
    row_begins a no_rows 0 d (get_or c.deref.result.now 0 d) c.renew.new.self c.wanted_shares-self.result
    c.requires.parts.some
    (ap (λ ps. get_or ps 0 d) c.deref.ensures.0)
    c.renew.ensures
    c.wanted_shares-self.ensures.value
    refl
