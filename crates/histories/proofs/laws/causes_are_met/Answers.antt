use Rattle.histories.proofs.causes.HostCauses.{causes_are_met}
use Rattle.histories.proofs.laws.causes_are_met.Goals as goal

pub returns : goal.returns
returns c = causes_are_met
