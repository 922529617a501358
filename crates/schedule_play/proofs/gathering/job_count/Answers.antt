use Rattle.std.proofs.Common.{◌≡◌, ◌<◌, ◌^◌, List, ap, sym, subst, ◌∙◌, arith, length}
use Rattle.std.specs.Prelude.{sum_by}
use Rattle.std.proofs.lemmas.List.{take_all}
use Rattle.script_text.specs.Script.{HostJobs}
use Rattle.schedule_play.specs.Gathering.{job_count}
use Rattle.schedule_play.proofs.MakeLemmas.{jobs-of-item}
use Rattle.schedule_play.proofs.GatherLemmas.{hosts-few, sum-by-hosts, sum-more}
use Rattle.schedule_play.proofs.gathering.job_count.Goals as goal

counted : (c : goal.After-len-count) → c.len-count.result ≡ job_count c.args.script.now c.jobs-item.result.host
counted c =
    let listed = ap length (sym (jobs-of-item c.args.script.now c.requires.script c.loop-jobs.jobs-index c.jobs-item.result c.hosts-jobs-items.result.now _
    c.hosts-jobs-items.ensures c.loop-jobs-test.true c.jobs-item.is (ap (λ (h : HostJobs). h.jobs) c.jobs.view_is))) in
    omega (arith, listed, c.len-count.ensures, c.jobs.inside.jobs.ok.0)

few : (c : goal.After-len-count) → c.len-count.result < 2 ^ 32
few c = subst (λ (n : _). n < 2 ^ 32) (sym (counted c)) (c.requires.jobs c.jobs-item.result.host)

within : (c : goal.After-len-count) → c.loop-jobs.jobs-index < 16
within c = omega (arith, c.loop-jobs-test.true, hosts-few c.args.script.now c.requires.script, ap length c.hosts-jobs-items.ensures)

pub overflow_add-count : goal.overflow_add-count
overflow_add-count c = omega (arith, few c, within c, c.loop-jobs.invariant.1)

pub loop-jobs-preserved : goal.loop-jobs-preserved
loop-jobs-preserved c = (
  sum-more (job_count c.args.script.now) c.hosts-jobs-items.result.now c.loop-jobs.jobs-index c.jobs-item.result c.loop-jobs.count c.len-count.result c.loop-jobs-test.true c.jobs-item.is c.loop-jobs.invariant.0 (counted c),
  omega (arith, few c, c.loop-jobs.invariant.1),
)

pub returns : goal.returns
returns c =
    let f : List HostJobs → _ = sum_by (λ (h : HostJobs). job_count c.args.script.now h.host) in
    c.loop-jobs.invariant.0 ∙ ap f (take_all c.loop-jobs.jobs-index c.hosts-jobs-items.result.now (omega (arith, c.loop-jobs-test.false))) ∙ ap f c.hosts-jobs-items.ensures
    ∙ sym (sum-by-hosts (job_count c.args.script.now) c.args.script.now.hosts)
