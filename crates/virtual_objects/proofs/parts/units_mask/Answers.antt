use Rattle.virtual_objects.proofs.MaskLemmas.{shifts_order}
use Rattle.virtual_objects.proofs.parts.units_mask.Goals as goal

pub overflow_sub-result : goal.overflow_sub-result
overflow_sub-result c = shifts_order c.args.low c.args.high c.requires.order c.requires.most
