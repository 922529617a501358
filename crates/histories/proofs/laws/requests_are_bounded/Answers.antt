use Rattle.histories.proofs.bounds.BoundsHistory.{requests_are_bounded}
use Rattle.histories.proofs.laws.requests_are_bounded.Goals as goal

pub returns : goal.returns
returns c = requests_are_bounded
