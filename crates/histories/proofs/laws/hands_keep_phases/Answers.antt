use Rattle.histories.proofs.hands.PhasedHands.{hands_keep_phases}
use Rattle.histories.proofs.laws.hands_keep_phases.Goals as goal

pub returns : goal.returns
returns c = hands_keep_phases
