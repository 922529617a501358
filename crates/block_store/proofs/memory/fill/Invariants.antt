use Rattle.std.proofs.Common.{◌≡◌, ◌≤◌, ◌-◌, ◌++◌, replicate, vec_len}
use Rattle.std.specs.Vec.{vec_capacity}
use Rattle.raid_base.specs.Cells.{zeros}
use Rattle.block_store.proofs.memory.fill.Given as goal

abbrev pub invariant-loop-blocks : goal.invariant-loop-blocks
invariant-loop-blocks l =
    (l.blocks.items ≡ l.fn.blocks.items ++ replicate (vec_len l.blocks - vec_len l.fn.blocks) zeros)
    × (vec_len l.fn.blocks ≤ vec_len l.blocks)
    × (vec_len l.blocks ≤ l.fn.count)
    × (vec_capacity l.blocks ≡ vec_capacity l.fn.blocks)

abbrev pub decreases-loop-blocks : goal.decreases-loop-blocks
decreases-loop-blocks l = l.fn.count - vec_len l.blocks
