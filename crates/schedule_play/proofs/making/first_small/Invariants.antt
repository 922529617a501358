use Rattle.schedule_play.specs.Making.{AreLarge}
use Rattle.schedule_play.proofs.making.first_small.Given as goal

abbrev pub invariant-loop-bay : goal.invariant-loop-bay
invariant-loop-bay g l = AreLarge g.D.Store.size l.bay l.rows l.stores
