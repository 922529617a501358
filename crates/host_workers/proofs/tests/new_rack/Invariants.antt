use Rattle.std.proofs.Common.{◌≡◌, ◌≤◌, length}
use Rattle.std.specs.Prelude.{All}
use Rattle.std.specs.Vec.{vec_capacity}
use Rattle.host_workers.proofs.TestLemmas.{IsNewBay}
use Rattle.host_workers.proofs.tests.new_rack.Given as goal

abbrev pub invariant-loop : goal.invariant-loop
invariant-loop l = (l.end ≡ l.script.n) × (l.counter ≤ l.end) × (length l.bays.items ≡ l.counter) × (l.end ≤ vec_capacity l.bays) × All (IsNewBay l.script.rows) l.bays.items
