use Rattle.std.proofs.Common.{◌≡◌, ◌^◌, take, fold}
use Rattle.std.specs.Prelude.{bit_or}
use Rattle.host_write.proofs.puts.flags.Given as goal

abbrev pub invariant-loop-block : goal.invariant-loop-block
invariant-loop-block l = l.flags ≡ fold (λ n block. bit_or n (2 ^ block)) 0 (take l.block-index l.made)
