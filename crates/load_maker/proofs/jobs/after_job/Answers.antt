use Rattle.std.proofs.Common.{arith}
use Rattle.load_maker.specs.Load.{after_job}
use Rattle.load_maker.proofs.jobs.after_job.Goals as goal

pub returns : goal.returns
unfolding after_job
returns c = grind (arith, c.draw_job-job.ensures.job, c.draw_job-job.ensures.state)
