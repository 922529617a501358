use Rattle.std.proofs.Common.{rules}
use Rattle.load_maker.specs.Load.{drawn_job}
use Rattle.load_maker.proofs.jobs.draw_job.Goals as goal

pub returns-clause-job : goal.returns-clause-job
unfolding drawn_job
returns-clause-job c = search rules
