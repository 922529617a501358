-- What is left of a read.
use Rattle.std.specs.Prelude.{◌+◌, List, length, drop}
use Rattle.raid_base.specs.declared.jobs.Ended.TheVariants.{Refused}
use Rattle.raid_base.specs.declared.messages.Errand.{Errand}
use Rattle.raid_base.specs.Steps.{Steps, bind, drawn, run}
use Rattle.attempts.specs.Taking.{Access, Finish, Rows, Taken, with_parity, with_wanted, with_other}
use Rattle.attempts.specs.Releases.{releasing, end_as}
use Rattle.attempts.specs.Reading.{sharing, wanted_shared, parity_shared, row_shared, read_rows, read_drawn, freeing, read_freed}
use Rattle.host_read.specs.declared.stages.ReadStage.{ReadStage}
use Rattle.host_read.specs.declared.stages.ReadStage.TheVariants.{Wanted, Parity, Others, Drawing, Freeing, Releasing}

-- once the row in hand is done the other rows follow
abbrev pub rest_of : Access → Taken → Rows → Steps Finish
rest_of a taken = read_rows a (drop (length taken.before + 1) a.parts)

abbrev pub left_of : ReadStage → Access → Taken → List Errand → Steps Finish
left_of Wanted a taken errands = bind (run (sharing a with_wanted) errands taken) (wanted_shared a (rest_of a taken))
left_of Parity a taken errands = bind (run (sharing a with_parity) errands taken) (parity_shared a (rest_of a taken))
left_of Others a taken errands = bind (run (sharing a with_other) errands taken) (row_shared a (rest_of a taken))
left_of Drawing a taken errands = bind drawn (read_drawn a taken.before)
left_of (Freeing number row) a taken errands = bind (run freeing errands row) (read_freed a number taken.before)
left_of (Releasing cause) a taken errands = bind (run releasing errands tt) (end_as (Refused cause))
