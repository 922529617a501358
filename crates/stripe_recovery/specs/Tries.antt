-- What is left of the recovery that the code holds.
use Rattle.raid_base.specs.Steps.{Steps}
use Rattle.attempts.specs.Taking.{Finish}
use Rattle.stripe_recovery.specs.Left.{left_of}
use Rattle.stripe_recovery.specs.declared.recover_try.RecoverTry.{RecoverTry}

abbrev pub left : RecoverTry → Steps Finish
left t = left_of t.stage t.job t.taken t.queue
