use Rattle.std.proofs.Common.{length}
use Rattle.rack_plays.proofs.racks.tried.Goals as goal

pub try_ask-requires-clause-ask : goal.try_ask-requires-clause-ask
try_ask-requires-clause-ask g c = λ opening there. c.lose-ask.ensures.any (length opening.slots.slots)
