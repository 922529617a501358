use Rattle.serial_laws.proofs.contents.ContentParity.{contents_are_shown}
use Rattle.serial_laws.proofs.laws.contents_are_shown.Goals as goal

pub returns : goal.returns
returns c = contents_are_shown
