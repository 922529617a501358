use Rattle.serial_laws.proofs.reads.Late.{contents_are_late}
use Rattle.serial_laws.proofs.laws.contents_are_late.Goals as goal

pub returns : goal.returns
returns c = contents_are_late
