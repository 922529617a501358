use Rattle.std.proofs.Common.{◌≡◌}
use Rattle.load_maker.specs.Load.{after}
use Rattle.load_maker.proofs.jobs.after_job.Given as goal

abbrev pub invariant-loop : goal.invariant-loop
invariant-loop l = l.generator.state ≡ after l.counter l.initial.generator.state
