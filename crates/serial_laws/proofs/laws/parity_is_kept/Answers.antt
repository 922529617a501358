use Rattle.serial_laws.proofs.contents.ContentParity.{parity_is_kept}
use Rattle.serial_laws.proofs.laws.parity_is_kept.Goals as goal

pub returns : goal.returns
returns c = parity_is_kept
