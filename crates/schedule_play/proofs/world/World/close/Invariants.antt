use Rattle.std.proofs.Common.{◌≡◌, ◌≤◌, ◌+◌, ◌++◌, map, reverse}
use Rattle.std.specs.Vec.{vec_len, vec_capacity}
use Rattle.schedule_play.specs.Making.{stores_of}
use Rattle.schedule_play.proofs.world.World.close.Given as goal

abbrev pub decreases-loop-bay : goal.decreases-loop-bay
decreases-loop-bay g l = vec_len l.bays

abbrev pub invariant-loop-bay : goal.invariant-loop-bay
invariant-loop-bay g l = record {
  stores : stores_of l.bays.items ++ reverse l.stores.items ≡ stores_of l.initial.bays.items ++ reverse l.initial.stores.items;
  journals : map (λ bay. bay.journal.items) l.bays.items ++ map (λ journal. journal.items) (reverse l.journals.items) ≡ map (λ bay. bay.journal.items) l.initial.bays.items ++ map (λ journal. journal.items) (reverse l.initial.journals.items);
  room : vec_len l.stores + vec_len l.bays ≤ vec_capacity l.stores;
  space : vec_len l.journals + vec_len l.bays ≤ vec_capacity l.journals;
}
