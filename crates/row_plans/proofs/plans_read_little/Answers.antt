use Rattle.raid_xor.proofs.Parities.{parity_of-append, order_free}
use Rattle.row_plans.proofs.FewestReads.{fewest}
use Rattle.row_plans.proofs.plans_read_little.Goals as goal

pub returns : goal.returns
returns c = record {
  fewest = fewest;
  parities = parity_of-append;
  order = order_free;
}
