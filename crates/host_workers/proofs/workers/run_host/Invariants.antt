use Rattle.std.proofs.Common.{◌-◌}
use Rattle.std.specs.Vec.{vec_len}
use Rattle.histories.specs.Bounds.{host_requests}
use Rattle.host_workers.proofs.RunLemmas.{Comes}
use Rattle.host_workers.proofs.workers.run_host.Given as goal

abbrev pub invariant-loop : goal.invariant-loop
invariant-loop g l = Comes l.rack l.initial.worker l.worker

abbrev pub decreases-loop : goal.decreases-loop
decreases-loop g l = host_requests l.initial.worker.host.script.now l.initial.worker.host.no - vec_len l.worker.host.transcript
