use Rattle.std.proofs.Common.{◌≡◌, ◌≤◌, ◌+◌, ◌-◌, ◌++◌, true, length}
use Rattle.array_cli.proofs.input.read_all.Given as goal

-- what was taken and what is left are together what there was
abbrev pub invariant-loop-bytes : goal.invariant-loop-bytes
invariant-loop-bytes g l =
    (length l.bytes.items ≤ l.most)
    × (g.S.Source.tells l.source ≡ g.S.Source.tells l.initial.source)
    × (g.S.Source.tells l.initial.source ≡ true → l.bytes.items ++ g.S.Source.left l.source ≡ g.S.Source.left l.initial.source)
    × (g.S.Source.faults l.initial.source ≤ g.S.Source.faults l.source)

abbrev pub decreases-loop-bytes : goal.decreases-loop-bytes
decreases-loop-bytes g l = l.most + 1 - length l.bytes.items
