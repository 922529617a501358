use Rattle.histories.proofs.missing.MissingRebuilds.{rebuilds_meet_no_gone}
use Rattle.histories.proofs.laws.rebuilds_meet_no_gone.Goals as goal

pub returns : goal.returns
returns c = rebuilds_meet_no_gone
