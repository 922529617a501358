use Rattle.std.proofs.Common.{◌≡◌, ◌≤◌, length, take}
use Rattle.std.specs.Prelude.{All}
use Rattle.script_text.specs.Script.{HostJobs}
use Rattle.host_workers.proofs.tests.is_short.Given as goal

abbrev pub invariant-loop-host : goal.invariant-loop-host
invariant-loop-host l = All (λ (host : HostJobs). length host.jobs ≤ 100) (take l.host-index l.hosts)
