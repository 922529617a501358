use Rattle.std.proofs.Common.{◌≡◌, ◌≤◌, true, false, length}
use Rattle.std.specs.Prelude.{All}
use Rattle.std.specs.Vec.{vec_capacity}
use Rattle.rack_turns.specs.Passes.{IsPassOf}
use Rattle.host_workers.specs.declared.workers.Worker.{Worker}
use Rattle.host_workers.specs.Workers.{IsAtStart}
use Rattle.host_workers.proofs.tests.new_workers.Given as goal

abbrev pub invariant-loop-host : goal.invariant-loop-host
invariant-loop-host l = IsPassOf l.rack l.first × (l.first.is_first ≡ true) × (length l.workers.items ≡ l.host-index) × (length l.hosts ≤ vec_capacity l.workers)
    × All (IsAtStart l.script l.rack) l.workers.items
    × All (λ (worker : Worker). worker.pass.is_first ≡ false) l.workers.items
