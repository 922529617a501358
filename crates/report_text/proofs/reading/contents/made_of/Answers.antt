use Rattle.std.proofs.Common.{◌-◌, arith, refl, sym}
use Rattle.report_text.proofs.FlagReading.{bit-small, made-bit, made_of-end, made-small, made-step}
use Rattle.report_text.proofs.reading.contents.made_of.Goals as goal

pub loop-left-init : goal.loop-left-init
loop-left-init c = record { within = omega arith; made = sym (made_of-end c.args.digits.now) }

pub overflow_mul-made : goal.overflow_mul-made
overflow_mul-made c = let small = made-small c.args.digits.now c.loop-left.left c.loop-left.made c.requires c.loop-left.invariant.made in omega arith

pub overflow_add-made : goal.overflow_add-made
overflow_add-made c =
    let small = made-small c.args.digits.now c.loop-left.left c.loop-left.made c.requires c.loop-left.invariant.made in
    let bit = bit-small c.bit_of.result _ c.bit_of.ensures in
    omega arith

pub loop-left-preserved : goal.loop-left-preserved
loop-left-preserved c = record {
  within = omega arith;
  made = made-step c.args.digits.now c.loop-left.left (c.loop-left.left - 1) c.loop-left.made _ c.loop-left.invariant.within (omega arith) refl c.loop-left.invariant.made (made-bit _ _ _ _ c.bit_of.ensures refl);
}
