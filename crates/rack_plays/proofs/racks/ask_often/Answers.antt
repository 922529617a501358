use Rattle.std.proofs.Common.{length}
use Rattle.rack_plays.proofs.racks.ask_often.Goals as goal

pub ask-requires-clause-ask : goal.ask-requires-clause-ask
ask-requires-clause-ask g c = λ opening there. c.lose-ask.ensures.any (length opening.slots.slots)
