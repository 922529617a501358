use Rattle.array_cli.proofs.told.PlayMoments.{moments_are_bounded}
use Rattle.array_cli.proofs.laws.moments_are_bounded.Goals as goal

pub returns : goal.returns
returns c = moments_are_bounded
