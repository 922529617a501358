-- What is left of a recovery.
use Rattle.std.specs.Prelude.{true, None, List}
use Rattle.raid_base.specs.declared.messages.Errand.{Errand}
use Rattle.raid_base.specs.declared.jobs.Ended.TheVariants.{Recovered}
use Rattle.raid_base.specs.Steps.{Steps, bind, run}
use Rattle.attempts.specs.declared.Rescue.{Rescue}
use Rattle.attempts.specs.Taking.{Finish, Taken, taking, with_parity, with_wanted}
use Rattle.attempts.specs.Releases.{releasing, end_as}
use Rattle.attempts.specs.Recovery.{parity_seized, units_seized, recover_confirming, recover_confirmed, recover_putting, recover_put, closing}
use Rattle.stripe_recovery.specs.declared.stages.RecoverStage.{RecoverStage}
use Rattle.stripe_recovery.specs.declared.stages.RecoverStage.TheVariants.{Parity, Units, Confirming, Putting, Closing, Releasing}

-- in each stage, with what was taken
abbrev pub left_of : RecoverStage → Rescue → Taken → List Errand → Steps Finish
left_of Parity r taken errands = bind (run (taking None with_parity) errands taken) (parity_seized r)
left_of Units r taken errands = bind (run (taking None with_wanted) errands taken) (units_seized r)
left_of Confirming r taken errands = bind (run (recover_confirming taken) errands tt) (recover_confirmed r taken)
left_of (Putting number lost) r taken errands = bind (run (recover_putting r lost) errands tt) (recover_put r taken.row number lost)
left_of (Closing number lost) r taken errands = bind (run (closing number lost) errands tt) (end_as (Recovered number true lost))
left_of (Releasing why) r taken errands = bind (run releasing errands tt) (end_as why)
