use Rattle.std.proofs.Common.{◌≡◌, ◌≤◌, reverse, drop}
use Rattle.std.specs.Vec.{vec_len, vec_capacity}
use Rattle.schedule_play.specs.Making.{AreMade}
use Rattle.schedule_play.proofs.making.make_bays.Given as goal

abbrev pub invariant-loop-bay : goal.invariant-loop-bay
invariant-loop-bay g l = record {
  rest : reverse l.stores.items ≡ drop l.bay l.fn.stores.items;
  made : AreMade l.script l.cap l.fn.stores.items l.bays.items;
  count : vec_len l.bays ≡ l.bay;
  room : l.script.n ≤ vec_capacity l.bays;
  spare : vec_len l.fn.stores ≤ vec_capacity l.stores;
}
