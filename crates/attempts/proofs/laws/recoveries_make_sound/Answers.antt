use Rattle.attempts.proofs.RepairSound.{recoveries_make_sound}
use Rattle.attempts.proofs.laws.recoveries_make_sound.Goals as goal

pub returns : goal.returns
returns c = recoveries_make_sound
