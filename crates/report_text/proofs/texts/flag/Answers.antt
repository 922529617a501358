use Rattle.std.proofs.Common.{◌≡◌, ◌<◌, ◌≤◌, ◌/◌, ◌^◌, ◌==◌, cond, ap, sym, arith}
use Rattle.std.specs.Prelude.{bit_and}
use Rattle.std.proofs.Math.Nat.{div-eq_of_lt, pow-le-pow_right}
use Rattle.report_text.proofs.texts.flag.Goals as goal

pub returns-then-block-ge128 : goal.returns-then-block-ge128
returns-then-block-ge128 c =
    let most : 2 ^ 128 ≤ 2 ^ c.args.block = pow-le-pow_right (let two : 0 < 2 = omega arith in two) {i = 128} {j = c.args.block} (omega arith) in
    let made : c.args.made < 2 ^ c.args.block = omega arith in
    let none : c.args.made / 2 ^ c.args.block ≡ 0 = div-eq_of_lt made in
    sym (ap (λ q. cond (bit_and q 1 == 1) 49 48) none)
