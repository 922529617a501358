use Rattle.std.proofs.Common.{◌≡◌, ◌≤◌, ◌-◌, get_or, refl, ap}
use Rattle.raid_base.specs.declared.jobs.RowPart.{RowPart}
use Rattle.attempts.specs.Parts.{blocks_in}
use Rattle.attempts.specs.Taking.{Access, no_rows}
use Rattle.attempts.proofs.PartLemmas.{formed}
use Rattle.host_write.proofs.ClaimLemmas.{row_begins, part-at, part-most}
use Rattle.host_write.proofs.write_try.WriteTry.renew.Goals as goal

pub parity_claim-self-requires-clause-most : goal.parity_claim-self-requires-clause-most
parity_claim-self-requires-clause-most c =
    let d : RowPart = record { row = record { 0 = 0 }; mask = 0; at = 0; count = 0 } in
    let same : get_or c.deref.result.now 0 d ≡ get_or c.args.parts.items 0 d = ap (λ ps. get_or ps 0 d) c.deref.ensures.0 in
    let most : (get_or c.args.parts.items 0 d).count ≤ c.args.n - 1 =
    part-most c.args.n (blocks_in c.args.parts.items) (get_or c.args.parts.items 0 d)
    (part-at c.args.n c.args.parts.items 0 d c.requires.parts.some (formed c.args.n c.args.parts.items c.requires.bays.1 c.requires.parts)) in
    rw same most

pub returns-clause-left : goal.returns-clause-left
returns-clause-left c = λ blocks.
    let a : Access = record { mode = c.args.mode; n = c.args.n; id = c.args.id; parts = c.args.parts.items; blocks = blocks } in
    let d : RowPart = record { row = record { 0 = 0 }; mask = 0; at = 0; count = 0 } in
    row_begins a no_rows 0 d (get_or c.deref.result.now 0 d) c.renew.new.self c.clear.new.self c.clear-2.new.self c.parity_claim-self.result
    c.requires.parts.some
    (ap (λ ps. get_or ps 0 d) c.deref.ensures.0)
    c.renew.ensures
    c.parity_claim-self.ensures
    refl
