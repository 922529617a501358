use Rattle.serial_laws.proofs.contents.ContentsCovered.{contents_are_covered}
use Rattle.serial_laws.proofs.laws.contents_are_covered.Goals as goal

pub returns : goal.returns
returns c = contents_are_covered
