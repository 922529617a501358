use Rattle.std.proofs.Common.{get_or, ap, subst}
use Rattle.raid_base.specs.declared.jobs.Task.TheVariants as tasks
use Rattle.histories.specs.Plain.{is_plain_task}
use Rattle.host_engine.specs.Stands.{FirstTask}
use Rattle.host_engine.proofs.HostLemmas.{begins-as, begins-access, begins-recover, first-at}
use Rattle.host_engine.proofs.host.Host.begin_job.Goals as goal

pub returns-in-Read-clause-begun : goal.returns-in-Read-clause-begun
returns-in-Read-clause-begun c = λ script host p h.
    let task = (get_or c.args.self.now.jobs.now c.args.self.now.job c.index-jobs-self.result).task in
    let first : FirstTask p.jobs task = first-at script host c.args.self.now p c.index-jobs-self.result h c.requires.job in
    begins-access script host p.jobs task c.access.result p c.access.new.self first (ap is_plain_task c.in-Read.is) (c.access.ensures.begun script host p h first)

pub returns-in-Write-clause-begun : goal.returns-in-Write-clause-begun
returns-in-Write-clause-begun c = λ script host p h.
    let task = (get_or c.args.self.now.jobs.now c.args.self.now.job c.index-jobs-self.result).task in
    let first : FirstTask p.jobs task = first-at script host c.args.self.now p c.index-jobs-self.result h c.requires.job in
    begins-access script host p.jobs task c.access-in-Write.result p c.access-in-Write.new.self first (ap is_plain_task c.in-Write.is) (c.access-in-Write.ensures.begun script host p h first)

pub returns-in-Recover-clause-begun : goal.returns-in-Recover-clause-begun
returns-in-Recover-clause-begun c = λ script host p h.
    let task = (get_or c.args.self.now.jobs.now c.args.self.now.job c.index-jobs-self.result).task in
    let first : FirstTask p.jobs task = first-at script host c.args.self.now p c.index-jobs-self.result h c.requires.job in
    begins-recover script host p.jobs task c.in-Recover.row c.try_task.result p c.try_task.new.self first c.in-Recover.is (c.try_task.ensures.begun script host p h first)

pub returns-in-Lose-clause-begun : goal.returns-in-Lose-clause-begun
returns-in-Lose-clause-begun c = λ script host p h.
    let task = (get_or c.args.self.now.jobs.now c.args.self.now.job c.index-jobs-self.result).task in
    let first : FirstTask p.jobs task = first-at script host c.args.self.now p c.index-jobs-self.result h c.requires.job in
    begins-as script host p.jobs task (tasks.Lose c.in-Lose.bay) c.lose.result p c.lose.new.self first c.in-Lose.is (c.lose.ensures.begun script host p h)

pub returns-in-Fit-clause-begun : goal.returns-in-Fit-clause-begun
returns-in-Fit-clause-begun c = λ script host p h.
    let task = (get_or c.args.self.now.jobs.now c.args.self.now.job c.index-jobs-self.result).task in
    let first : FirstTask p.jobs task = first-at script host c.args.self.now p c.index-jobs-self.result h c.requires.job in
    begins-as script host p.jobs task (tasks.Fit c.in-Fit.bay) c.fit.result p c.fit.new.self first c.in-Fit.is (c.fit.ensures.begun script host p h)

pub returns-in-Rebuild-clause-begun : goal.returns-in-Rebuild-clause-begun
returns-in-Rebuild-clause-begun c = λ script host p h.
    let task = (get_or c.args.self.now.jobs.now c.args.self.now.job c.index-jobs-self.result).task in
    let first : FirstTask p.jobs task = first-at script host c.args.self.now p c.index-jobs-self.result h c.requires.job in
    begins-as script host p.jobs task (tasks.Rebuild c.in-Rebuild.bay) c.rebuild.result p c.rebuild.new.self first c.in-Rebuild.is (c.rebuild.ensures.begun script host p h (subst (FirstTask p.jobs) c.in-Rebuild.is first))
