use Rattle.std.proofs.Common.{◌≡◌, map}
use Rattle.std.specs.List.{range_with_len}
use Rattle.load_maker.proofs.load.half.Given as goal

abbrev pub invariant-loop-more : goal.invariant-loop-more
invariant-loop-more l = l.rows.items ≡ map (λ r. record { 0 = r }) (range_with_len l.row l.more)
