use Rattle.histories.proofs.plays.PlayedHistories.{plays_are_histories}
use Rattle.histories.proofs.laws.plays_are_histories.Goals as goal

pub returns : goal.returns
returns c = plays_are_histories
