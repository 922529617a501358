use Rattle.std.proofs.Common.{◌≡◌, ◌++◌}
use Rattle.load_maker.specs.Load.{after, drawn_blocks}
use Rattle.load_maker.proofs.jobs.push_blocks.Given as goal

abbrev pub invariant-loop : goal.invariant-loop
invariant-loop l =
    (l.generator.state ≡ after l.counter l.initial.generator.state)
    × (l.blocks.items ≡ l.initial.blocks.items ++ drawn_blocks l.counter l.initial.generator.state)
