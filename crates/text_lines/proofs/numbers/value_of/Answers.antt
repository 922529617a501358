use Rattle.std.proofs.Common.{◌-◌, ◌^◌, arith, lit≤}
use Rattle.text_lines.proofs.NumberLemmas.{value_more}
use Rattle.text_lines.proofs.numbers.value_of.Goals as goal

pub loop-digit-preserved : goal.loop-digit-preserved
loop-digit-preserved c =
    let step = value_more c.args.digits.now c.loop-digit.digit-index c.loop-digit.value (2 ^ 64 - 1) c.requires (omega arith) (lit≤ tt) c.loop-digit.invariant in
    rw (c.saturating_add-value.ensures, c.saturating_mul.ensures, c.from.ensures) step
