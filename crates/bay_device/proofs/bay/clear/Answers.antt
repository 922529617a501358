use Rattle.std.proofs.Common.{◌∙◌, ap, arith, drop, List, ℕ}
use Rattle.bay_device.proofs.BayLemmas.{drop-later}
use Rattle.bay_device.proofs.bay.clear.Goals as goal

pub returns-in_err-write-clause-others : goal.returns-in_err-write-clause-others
returns-in_err-write-clause-others g c =
    ap (λ (blocks : List (List ℕ)). drop c.args.rows blocks) c.in_err-write.ensures.content
    ∙ drop-later (g.D.Store.content c.loop-row.store) (g.D.Store.content c.args.store.now) c.loop-row.row c.args.rows (omega (arith, c.loop-row-test.true)) c.loop-row.invariant.4

pub returns-in_err-write-clause-cut_off : goal.returns-in_err-write-clause-cut_off
returns-in_err-write-clause-cut_off g c = λ failed. record {
  row = c.loop-row.row;
  inside = omega (arith, c.loop-row-test.true);
  kept = ap (λ (blocks : List (List ℕ)). drop c.loop-row.row blocks) c.in_err-write.ensures.content ∙ c.loop-row.invariant.4;
}
