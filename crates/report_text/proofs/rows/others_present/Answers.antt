use Rattle.std.proofs.Common.{◌≡◌, ◌-◌, length, get_or, map, [], ◌∷◌, Some, None, length-append, arith, sym, ◌∙◌, ap}
use Rattle.std.proofs.lemmas.List.{take_all}
use Rattle.std.proofs.lemmas.List.FromFn.{get_or-map-range_with_len, length-map-range_with_len}
use Rattle.stripe_layout.specs.Placement.{units}
use Rattle.degraded_plans.specs.Rows.{all_present, others_of}
use Rattle.report_text.specs.Rows.{unit_in}
use Rattle.report_text.proofs.OtherUnits.{walk-skip, walk-push, walk-none}
use Rattle.report_text.proofs.rows.others_present.Goals as goal
use Rattle.report_text.proofs.rows.others_present.Goals.{then-other-unit+in_ok-unit_in, else-other-unit}

pub returns-in_err-unit_in : goal.returns-in_err-unit_in
returns-in_err-unit_in c =
    let f = unit_in c.args.n c.args.cells.now c.args.row in
    let len = length-map-range_with_len f 0 (c.args.n - 1) in
    let at = get_or-map-range_with_len f 0 (c.args.n - 1) c.loop-other.other c.loop-other.other None (omega arith) (omega arith) in
    let none : get_or (map f (units c.args.n)) c.loop-other.other None ≡ None = at ∙ sym c.unit_in.ensures ∙ c.in_err-unit_in.was in
    c.from_residual.ensures ∙ sym (walk-none c.args.unit c.loop-other.other (map f (units c.args.n)) (omega (arith, len)) c.if-other-unit.true none)

pub loop-other-preserved : goal.loop-other-preserved
loop-other-preserved c =
    let f = unit_in c.args.n c.args.cells.now c.args.row in
    let len = length-map-range_with_len f 0 (c.args.n - 1) in
    let at = get_or-map-range_with_len f 0 (c.args.n - 1) c.loop-other.other c.loop-other.other None (omega arith) (omega arith) in
    elim c.if-other-unit.branch [
      | then-other-unit+in_ok-unit_in w ↦
          let there : get_or (map f (units c.args.n)) c.loop-other.other None ≡ Some w.in_ok-unit_in.field-0 = at ∙ sym w.unit_in.ensures ∙ w.in_ok-unit_in.was in
          record {
            present = walk-push c.args.unit c.loop-other.other (map f (units c.args.n)) c.loop-other.others w.in_ok-unit_in.field-0 (omega (arith, len)) w.if-other-unit.true there c.loop-other.invariant.present
                ∙ ap (λ x. Some x) (sym (w.others-is ∙ w.push.ensures));
            few = omega (arith, ap length (w.others-is ∙ w.push.ensures), length-append c.loop-other.others (w.in_ok-unit_in.field-0 ∷ []), c.loop-other.invariant.few);
          }
      | else-other-unit w ↦
          record {
            present = walk-skip c.args.unit c.loop-other.other (map f (units c.args.n)) c.loop-other.others (omega (arith, len)) w.if-other-unit.false c.loop-other.invariant.present
                ∙ ap (λ x. Some x) (sym w.others-is);
            few = omega (arith, ap length w.others-is, c.loop-other.invariant.few);
          }
    ]

pub returns : goal.returns
returns c =
    let f = unit_in c.args.n c.args.cells.now c.args.row in
    let len = length-map-range_with_len f 0 (c.args.n - 1) in
    sym (ap (λ us. all_present (others_of c.args.unit us)) (sym (take_all c.loop-other.other (map f (units c.args.n)) (omega (arith, len)))) ∙ c.loop-other.invariant.present)
