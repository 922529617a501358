use Rattle.host_engine.specs.Ready.{IsReady}
use Rattle.host_plays.proofs.hosts.asked.Given as goal

abbrev pub invariant-loop-place : goal.invariant-loop-place
invariant-loop-place l = IsReady l.host
