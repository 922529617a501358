use Rattle.degraded_plans.proofs.RowUnits.{old_serve, by_units, any_order, zeros_sound}
use Rattle.degraded_plans.proofs.laws.cells_are_read_freely.Goals as goal

pub returns : goal.returns
returns c = record {
  old = old_serve;
  units = by_units;
  order = any_order;
  start = zeros_sound;
}
