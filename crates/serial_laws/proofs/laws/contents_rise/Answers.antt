use Rattle.serial_laws.proofs.rising.Rising.{contents_rise}
use Rattle.serial_laws.proofs.laws.contents_rise.Goals as goal

pub returns : goal.returns
returns c = contents_rise
