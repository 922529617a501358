use Rattle.serial_laws.proofs.contents.ContentRows.{rows_hold_contents}
use Rattle.serial_laws.proofs.laws.rows_hold_contents.Goals as goal

pub returns : goal.returns
returns c = rows_hold_contents
