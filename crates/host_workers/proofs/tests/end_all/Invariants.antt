use Rattle.std.proofs.Common.{◌≡◌, true, false, length}
use Rattle.std.specs.Prelude.{All}
use Rattle.rack_turns.specs.Passes.{IsPassOf}
use Rattle.host_workers.specs.declared.workers.Worker.{Worker}
use Rattle.host_workers.proofs.tests.end_all.Given as goal

abbrev pub invariant-loop-worker : goal.invariant-loop-worker
invariant-loop-worker l = IsPassOf l.rack l.first × (l.first.is_first ≡ true) × All (λ (worker : Worker). IsPassOf l.rack worker.pass × (worker.pass.is_first ≡ false)) l.workers.items

abbrev pub decreases-loop-worker : goal.decreases-loop-worker
decreases-loop-worker l = length l.workers.items
