use Rattle.serial_laws.proofs.reads.Seeing.{reads_see_below}
use Rattle.serial_laws.proofs.laws.reads_see_below.Goals as goal

pub returns : goal.returns
returns c = reads_see_below
