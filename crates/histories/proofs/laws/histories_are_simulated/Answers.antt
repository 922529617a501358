use Rattle.histories.proofs.plays.OtherTurns.{turn_lines_are_free}
use Rattle.histories.proofs.plays.SimulatedHistories.{ended_are_simulated}
use Rattle.histories.proofs.laws.histories_are_simulated.Goals as goal

pub returns : goal.returns
returns c = record { turns = turn_lines_are_free; simulated = ended_are_simulated }
