use Rattle.std.proofs.Common.{get_or, sym, subst, Bool}
use Rattle.host_engine.specs.Stands.{FirstTask, Begins, Stands, Skips}
use Rattle.histories.specs.Progress.{Progress, try_task}
use Rattle.host_engine.proofs.HostLemmas.{first-at, first-task, tried-first, again-begun, again-spent}
use Rattle.host_engine.proofs.host.Host.try_again.Goals as goal

pub try_task-requires-clause-tried : goal.try_task-requires-clause-tried
try_task-requires-clause-tried c =
    let now = c.args.self.now in
    tried-first now.script.now _ _ (first-task now.jobs.now now.job c.index-jobs-self.result c.requires.job) c.requires.tried

pub returns-else-not-try_task-clause-stands : goal.returns-else-not-try_task-clause-stands
returns-else-not-try_task-clause-stands c = λ script host p h.
    let task = (get_or c.args.self.now.jobs.now c.args.self.now.job c.index-jobs-self.result).task in
    let first : FirstTask p.jobs task = first-at script host c.args.self.now p c.index-jobs-self.result h c.requires.job in
    again-begun script host p c.try_task.new.self task first
    (subst (λ (b : Bool). Begins script host (λ rest q. try_task script host task rest q) b p c.try_task.new.self) c.if-not-try_task.false (c.try_task.ensures.begun script host p h first))

pub returns-then-not-try_task-clause-stands : goal.returns-then-not-try_task-clause-stands
returns-then-not-try_task-clause-stands c = λ script host p h.
    let task = (get_or c.args.self.now.jobs.now c.args.self.now.job c.index-jobs-self.result).task in
    let first : FirstTask p.jobs task = first-at script host c.args.self.now p c.index-jobs-self.result h c.requires.job in
    let skips = subst (λ (b : Bool). Skips b c.args.self.now c.try_task.new.self) c.if-not-try_task.true c.try_task.ensures.job in
    let begun = subst (λ (b : Bool). Begins script host (λ rest q. try_task script host task rest q) b p c.try_task.new.self) c.if-not-try_task.true (c.try_task.ensures.begun script host p h first) in
    let spent = again-spent script host c.args.self.now.job p c.try_task.new.self task first h.jobs skips.0 begun in
    subst (λ (q : Progress). Stands script host c.start.new.self q) (sym spent.2) (c.start.ensures.stands script host spent.0 spent.1)
