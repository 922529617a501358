use Rattle.std.proofs.Common.{rules}
use Rattle.load_maker.specs.Load.{job_blocks}
use Rattle.load_maker.proofs.jobs.add_job.Goals as goal

pub returns-clause-blocks : goal.returns-clause-blocks
unfolding job_blocks
returns-clause-blocks c = search rules
