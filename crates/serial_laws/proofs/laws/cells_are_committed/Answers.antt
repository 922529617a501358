use Rattle.serial_laws.proofs.contents.ContentParity.{cells_are_committed}
use Rattle.serial_laws.proofs.laws.cells_are_committed.Goals as goal

pub returns : goal.returns
returns c = cells_are_committed
