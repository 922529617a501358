use Rattle.attempts.proofs.WriteFinishes.{writes_finish}
use Rattle.attempts.proofs.RepairFinishes.{mends_finish, recoveries_finish}
use Rattle.attempts.proofs.laws.others_finish.Goals as goal

-- src/laws.rt:99:1
pub returns : goal.returns
returns c = (writes_finish, mends_finish, recoveries_finish)
