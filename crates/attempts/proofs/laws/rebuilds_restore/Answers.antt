use Rattle.attempts.proofs.RepairSound.{rebuilds_restore}
use Rattle.attempts.proofs.laws.rebuilds_restore.Goals as goal

pub returns : goal.returns
returns c = rebuilds_restore
