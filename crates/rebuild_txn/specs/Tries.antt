-- What is left of the rebuild that the code holds.
use Rattle.raid_base.specs.Steps.{Steps}
use Rattle.attempts.specs.Taking.{Finish}
use Rattle.rebuild_txn.specs.Left.{left_of}
use Rattle.rebuild_txn.specs.declared.mend_try.MendTry.{MendTry}

abbrev pub left : MendTry → Steps Finish
left t = left_of t.stage t.job t.holds.items t.queue
