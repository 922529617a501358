use Rattle.slot_rules.proofs.RowSteps.{lives_lem}
use Rattle.slot_rules.proofs.laws.lives_tell_losses.Goals as goal

pub returns : goal.returns
returns c = lives_lem
