use Rattle.attempts.proofs.ReadSound.{reads_tell}
use Rattle.attempts.proofs.laws.reads_tell.Goals as goal

pub returns : goal.returns
returns c = reads_tell
