use Rattle.std.proofs.Common.{◌≡◌, ◌≤◌, take, map, length}
use Rattle.std.specs.Prelude.{Some}
use Rattle.stripe_layout.specs.Placement.{units}
use Rattle.degraded_plans.specs.Rows.{all_present, others_of}
use Rattle.report_text.specs.Rows.{unit_in}
use Rattle.report_text.proofs.rows.others_present.Given as goal

abbrev pub invariant-loop-other : goal.invariant-loop-other
invariant-loop-other l = record {
  present : all_present (others_of l.unit (take l.other (map (unit_in l.n l.cells l.row) (units l.n)))) ≡ Some l.others;
  few : length l.others ≤ l.other;
}
