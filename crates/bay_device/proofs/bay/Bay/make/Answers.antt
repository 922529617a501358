use Rattle.std.proofs.Common.{sym, ap, arith}
use Rattle.std.proofs.lemmas.List.{take-replicate}
use Rattle.std.proofs.Math.ListN.{replicate}
use Rattle.raid_base.specs.Cells.{zeros}
use Rattle.slot_rules.specs.Slots.{Bay as BayState}
use Rattle.bay_device.proofs.BayLemmas.{on-ok}
use Rattle.bay_device.proofs.bay.Bay.make.Goals as goal

pub returns-clause-first : goal.returns-clause-first
returns-clause-first g c = c.in-Ok.ensures.first (replicate c.args.rows zeros) (take-replicate c.args.rows c.args.rows zeros (omega arith))

pub returns-clause-told : goal.returns-clause-told
returns-clause-told g c = λ told.
    c.in-Ok.ensures.first (g.D.Store.content c.clear.new.store) (on-ok c.clear.result _ (sym c.if-is_err.ensures.value) (c.clear.ensures.zeros told))

pub invariant_of-result-clause-lives : goal.invariant_of-result-clause-lives
invariant_of-result-clause-lives g c =
    let first = c.in-Ok.ensures.first (replicate c.args.rows zeros) (take-replicate c.args.rows c.args.rows zeros (omega arith)) in
    let none = ap (λ (b : BayState). b.life) first in
    omega (arith, none)
