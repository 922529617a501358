use Rattle.std.proofs.Common.{refl}
use Rattle.host_engine.proofs.HostLemmas.{counts-idle}
use Rattle.host_engine.proofs.TakeLemmas.{quits-as}
use Rattle.host_engine.proofs.host.Host.quit.Goals as goal

pub returns-clause-stands : goal.returns-clause-stands
returns-clause-stands c = λ script host p h blocks stop stopped_so.
    quits-as script host c.finish_job.new.self p c.args.self.now.attempt blocks stop c.quit.result c.args.self.now.tries c.quit_end-end.result
    (c.quit.ensures blocks) stopped_so c.quit_end-end.ensures h.tries
    (c.finish_job.ensures.counts script host p (counts-idle script host c.args.self.now _ p h refl refl refl refl refl refl refl refl refl refl refl refl))
    c.finish_job.ensures.job.2
