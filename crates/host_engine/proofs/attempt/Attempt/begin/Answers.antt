use Rattle.histories.specs.Plain.{task_blocks}
use Rattle.host_engine.proofs.AttemptLemmas.{read-still, write-still}
use Rattle.host_engine.proofs.attempt.Attempt.begin.Goals as goal

pub returns-in-Read-clause-asks : goal.returns-in-Read-clause-asks
returns-in-Read-clause-asks c = read-still c.begin_read.new.room

pub returns-in-Write-clause-asks : goal.returns-in-Write-clause-asks
returns-in-Write-clause-asks c = write-still c.begin_write.new.room (task_blocks c.args.script.now c.args.task.now)
