-- What is left of a rebuild.
use Rattle.std.specs.Prelude.{List}
use Rattle.raid_base.specs.declared.messages.Errand.{Errand}
use Rattle.raid_base.specs.Steps.{Steps, bind, run}
use Rattle.attempts.specs.declared.Repair.{Repair}
use Rattle.attempts.specs.declared.Hold.{Hold}
use Rattle.attempts.specs.Taking.{Finish}
use Rattle.attempts.specs.Releases.{releasing, end_as}
use Rattle.attempts.specs.Mending.{mending, mend_claimed, mend_confirming, mend_confirmed, mend_putting, mend_put}
use Rattle.rebuild_txn.specs.declared.stages.MendStage.{MendStage}
use Rattle.rebuild_txn.specs.declared.stages.MendStage.TheVariants.{Claiming, Confirming, Putting, Releasing}

-- in each stage, with these slots held
abbrev pub left_of : MendStage → Repair → List Hold → List Errand → Steps Finish
left_of Claiming m holds errands = bind (run (mending m) errands holds) (mend_claimed m)
left_of Confirming m holds errands = bind (run mend_confirming errands tt) (mend_confirmed m holds)
left_of Putting m holds errands = bind (run mend_putting errands tt) (mend_put m holds)
left_of (Releasing why) m holds errands = bind (run releasing errands tt) (end_as why)
