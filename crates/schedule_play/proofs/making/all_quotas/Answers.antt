use Rattle.std.proofs.Common.{◌+◌, List, ap, sym, ◌∙◌, arith}
use Rattle.std.specs.Prelude.{sum_by}
use Rattle.std.proofs.lemmas.List.{take_all}
use Rattle.script_text.specs.Script.{HostJobs}
use Rattle.script_text.specs.Weights.{quota}
use Rattle.schedule_play.proofs.GatherLemmas.{sum-by-hosts}
use Rattle.schedule_play.proofs.QuotaLemmas.{quotas-step, IsQuotaSum}
use Rattle.schedule_play.proofs.making.all_quotas.Goals as goal

stepped : (c : goal.After-quota) → IsQuotaSum c.args.script.now c.hosts-jobs-items.result.now c.loop-jobs.jobs-index (c.loop-jobs.quotas + c.quota.result)
stepped c = quotas-step c.args.script.now c.loop-jobs.jobs-index c.jobs-item.result c.hosts-jobs-items.result.now c.loop-jobs.quotas c.quota.result
    c.hosts-jobs-items.ensures c.loop-jobs-test.true c.jobs-item.is c.loop-jobs.invariant (c.quota.ensures ∙ ap (λ (h : HostJobs). quota c.args.script.now h.host) c.jobs.view_is)

pub overflow_cast-quotas : goal.overflow_cast-quotas
overflow_cast-quotas c = omega (arith, (stepped c).most, c.requires.few)

pub overflow_add-quotas : goal.overflow_add-quotas
overflow_add-quotas c = omega (arith, (stepped c).most, c.requires.few)

pub loop-jobs-preserved : goal.loop-jobs-preserved
loop-jobs-preserved c = (stepped c).is

pub returns : goal.returns
returns c =
    let f : List HostJobs → _ = sum_by (λ (h : HostJobs). quota c.args.script.now h.host) in
    c.loop-jobs.invariant ∙ ap f (take_all c.loop-jobs.jobs-index c.hosts-jobs-items.result.now (omega (arith, c.loop-jobs-test.false))) ∙ ap f c.hosts-jobs-items.ensures
    ∙ sym (sum-by-hosts (quota c.args.script.now) c.args.script.now.hosts)
