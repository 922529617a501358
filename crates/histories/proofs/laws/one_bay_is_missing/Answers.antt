use Rattle.histories.proofs.missing.MissingBays.{one_bay_is_missing}
use Rattle.histories.proofs.laws.one_bay_is_missing.Goals as goal

pub returns : goal.returns
returns c = one_bay_is_missing
