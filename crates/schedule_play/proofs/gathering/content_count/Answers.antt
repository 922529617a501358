use Rattle.std.proofs.Common.{◌≡◌, ◌<◌, ◌^◌, List, ap, sym, subst, ◌∙◌, arith, length}
use Rattle.std.specs.Prelude.{sum_by}
use Rattle.std.proofs.lemmas.List.{take_all}
use Rattle.raid_base.specs.declared.jobs.Job.{Job}
use Rattle.script_text.specs.Script.{HostJobs, jobs_of}
use Rattle.histories.specs.Bounds.{job_contents, host_contents}
use Rattle.schedule_play.proofs.MakeLemmas.{jobs-sized, jobs-of-item}
use Rattle.schedule_play.proofs.GatherLemmas.{hosts-few, sum-by-hosts, sum-more, contents-few}
use Rattle.schedule_play.proofs.gathering.content_count.Goals.{After-as_slice}
use Rattle.schedule_play.proofs.gathering.content_count.Goals as goal

listed : (c : After-as_slice) → jobs_of c.args.script.now c.jobs-item.result.host ≡ c.as_slice.result.now
listed c = jobs-of-item c.args.script.now c.requires.script c.loop-jobs.jobs-index c.jobs-item.result c.hosts-jobs-items.result.now c.as_slice.result.now
    c.hosts-jobs-items.ensures c.loop-jobs-test.true c.jobs-item.is (c.as_slice.ensures.value ∙ ap (λ (h : HostJobs). h.jobs) c.jobs.view_is)

short : (c : After-as_slice) → length c.as_slice.result.now < 2 ^ 32
short c = subst (λ (js : List Job). length js < 2 ^ 32) (listed c) (c.requires.jobs c.jobs-item.result.host)

pub contents_in-count-requires : goal.contents_in-count-requires
contents_in-count-requires c = short c

counted : (c : goal.After-contents_in-count) → c.contents_in-count.result ≡ host_contents c.args.script.now c.jobs-item.result.host
counted c = c.contents_in-count.ensures ∙ ap (sum_by job_contents) (sym (jobs-of-item c.args.script.now c.requires.script c.loop-jobs.jobs-index c.jobs-item.result c.hosts-jobs-items.result.now c.as_slice.result.now
    c.hosts-jobs-items.ensures c.loop-jobs-test.true c.jobs-item.is (c.as_slice.ensures.value ∙ ap (λ (h : HostJobs). h.jobs) c.jobs.view_is)))

few : (c : goal.After-contents_in-count) → c.contents_in-count.result < 2 ^ 40
few c =
    let jobs = jobs_of c.args.script.now c.jobs-item.result.host in
    let most = contents-few jobs (jobs-sized c.args.script.now c.requires.script c.jobs-item.result.host) in
    omega (arith, most, counted c, c.requires.jobs c.jobs-item.result.host)

within : (c : goal.After-contents_in-count) → c.loop-jobs.jobs-index < 16
within c = omega (arith, c.loop-jobs-test.true, hosts-few c.args.script.now c.requires.script, ap length c.hosts-jobs-items.ensures)

pub overflow_add-count : goal.overflow_add-count
overflow_add-count c = omega (arith, few c, within c, c.loop-jobs.invariant.1)

pub loop-jobs-preserved : goal.loop-jobs-preserved
loop-jobs-preserved c = (
  sum-more (host_contents c.args.script.now) c.hosts-jobs-items.result.now c.loop-jobs.jobs-index c.jobs-item.result c.loop-jobs.count c.contents_in-count.result c.loop-jobs-test.true c.jobs-item.is c.loop-jobs.invariant.0 (counted c),
  omega (arith, few c, c.loop-jobs.invariant.1),
)

pub returns : goal.returns
returns c =
    let f : List HostJobs → _ = sum_by (λ (h : HostJobs). host_contents c.args.script.now h.host) in
    c.loop-jobs.invariant.0 ∙ ap f (take_all c.loop-jobs.jobs-index c.hosts-jobs-items.result.now (omega (arith, c.loop-jobs-test.false))) ∙ ap f c.hosts-jobs-items.ensures
    ∙ sym (sum-by-hosts (host_contents c.args.script.now) c.args.script.now.hosts)
