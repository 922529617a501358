use Rattle.std.proofs.Common.{◌≡◌, drop}
use Rattle.host_engine.specs.Parts.{jobs_in_hosts}
use Rattle.host_engine.proofs.lookup.jobs_in.Given as goal

abbrev pub invariant-loop-jobs : goal.invariant-loop-jobs
invariant-loop-jobs l = jobs_in_hosts (drop l.jobs-index l.hosts) l.host ≡ jobs_in_hosts l.hosts l.host
