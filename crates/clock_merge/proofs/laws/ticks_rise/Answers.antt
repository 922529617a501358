use Rattle.clock_merge.proofs.JournalsRise.{ticks_rise, replays_tick}
use Rattle.clock_merge.proofs.laws.ticks_rise.Goals as goal

pub returns : goal.returns
returns c = record { rise = ticks_rise; replays = replays_tick }
