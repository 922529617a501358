use Rattle.std.proofs.Common.{[], None}
use Rattle.attempts.specs.Accesses.{access_of}
use Rattle.host_read.proofs.ReadLemmas.{draws-freed}
use Rattle.host_read.proofs.ahead.drawn.Goals as goal

pub returns-in-Ok-clause-settled : goal.returns-in-Ok-clause-settled
returns-in-Ok-clause-settled c = draws-freed (access_of c.args.job.now []) c.in-Ok.number c.args.taken.now.before c.releases.result None
