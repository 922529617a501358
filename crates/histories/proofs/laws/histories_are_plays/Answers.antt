use Rattle.histories.proofs.plays.PlayedHistories.{histories_are_plays}
use Rattle.histories.proofs.laws.histories_are_plays.Goals as goal

pub returns : goal.returns
returns c = histories_are_plays
