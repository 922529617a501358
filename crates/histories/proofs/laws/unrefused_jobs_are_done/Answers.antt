use Rattle.histories.proofs.completeness.CompleteHistory.{unrefused_jobs_are_done}
use Rattle.histories.proofs.laws.unrefused_jobs_are_done.Goals as goal

pub returns : goal.returns
returns c = unrefused_jobs_are_done
