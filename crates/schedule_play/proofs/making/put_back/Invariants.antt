use Rattle.std.proofs.Common.{◌≡◌, ◌≤◌, ◌+◌, ◌++◌, reverse}
use Rattle.std.specs.Vec.{vec_len, vec_capacity}
use Rattle.schedule_play.specs.Making.{stores_of}
use Rattle.schedule_play.proofs.making.put_back.Given as goal

abbrev pub decreases-loop-bay : goal.decreases-loop-bay
decreases-loop-bay g l = vec_len l.bays

abbrev pub invariant-loop-bay : goal.invariant-loop-bay
invariant-loop-bay g l = record {
  all : stores_of l.bays.items ++ reverse l.stores.items ≡ stores_of l.initial.bays.items ++ reverse l.initial.stores.items;
  room : vec_len l.stores + vec_len l.bays ≤ vec_capacity l.stores;
}
