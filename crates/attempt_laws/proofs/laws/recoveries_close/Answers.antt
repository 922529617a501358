use Rattle.attempt_laws.proofs.rescues.RescueBays.{recoveries_close}
use Rattle.attempt_laws.proofs.laws.recoveries_close.Goals as goal

pub returns : goal.returns
returns c = recoveries_close
