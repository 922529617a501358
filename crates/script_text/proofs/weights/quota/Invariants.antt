use Rattle.std.proofs.Common.{◌≡◌, eqb, drop, find}
use Rattle.script_text.specs.Script.{HostJobs}
use Rattle.script_text.proofs.weights.quota.Given as goal

abbrev pub invariant-loop-entry : goal.invariant-loop-entry
invariant-loop-entry l =
    find (λ (host : HostJobs). eqb host.host.0 l.host.0) (drop l.entry-index l.hosts) ≡ find (λ (host : HostJobs). eqb host.host.0 l.host.0) l.hosts
