use Rattle.serial_laws.proofs.reads.Counted.{parities_count}
use Rattle.serial_laws.proofs.laws.parities_count.Goals as goal

pub returns : goal.returns
returns c = parities_count
