use Rattle.histories.proofs.hands.Attempting.{hands_hold_attempts}
use Rattle.histories.proofs.laws.hands_hold_attempts.Goals as goal

pub returns : goal.returns
returns c = hands_hold_attempts
