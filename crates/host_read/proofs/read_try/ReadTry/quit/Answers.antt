use Rattle.std.proofs.Common.{[], length}
use Rattle.attempts.specs.Accesses.{access_of}
use Rattle.host_read.proofs.TryLemmas.{has-errand, quits-left}
use Rattle.host_read.proofs.read_try.ReadTry.quit.Goals as goal

pub returns : goal.returns
returns c =
    let t = c.args.self.now in
    quits-left t.stage (access_of t.job []) t.taken t.queue (has-errand t.stage (access_of t.job []) t.taken t.queue (length t.job.parts.items) t.kept t.awake c.requires) t.awake
