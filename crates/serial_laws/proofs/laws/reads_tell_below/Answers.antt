use Rattle.serial_laws.proofs.reads.Telling.{reads_tell_below}
use Rattle.serial_laws.proofs.laws.reads_tell_below.Goals as goal

pub returns : goal.returns
returns c = reads_tell_below
