use Rattle.histories.proofs.completeness.CompleteCauses.{plain_calls_are_unrefused}
use Rattle.histories.proofs.laws.plain_calls_are_unrefused.Goals as goal

pub returns : goal.returns
returns c = plain_calls_are_unrefused
