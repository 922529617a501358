use Rattle.row_laws.proofs.torn.TornEndings.{lost_blocks_are_torn}
use Rattle.row_laws.proofs.laws.lost_blocks_are_torn.Goals as goal

pub returns : goal.returns
returns c = lost_blocks_are_torn
