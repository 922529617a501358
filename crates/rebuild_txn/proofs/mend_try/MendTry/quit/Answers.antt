use Rattle.std.proofs.Common.{length}
use Rattle.rebuild_txn.proofs.MendLemmas.{has-errand, quits-left}
use Rattle.rebuild_txn.proofs.mend_try.MendTry.quit.Goals as goal

pub returns : goal.returns
returns c =
    let t = c.args.self.now in
    quits-left t.stage t.job t.holds.items t.queue (has-errand t.stage t.job t.holds.items t.queue (length t.holds.items) t.kept c.requires)
