use Rattle.attempts.proofs.ReadFinishes.{reads_finish}
use Rattle.attempts.proofs.laws.reads_finish.Goals as goal

-- src/laws.rt:94:1
pub returns : goal.returns
returns c = reads_finish
