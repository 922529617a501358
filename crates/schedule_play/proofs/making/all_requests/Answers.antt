use Rattle.std.proofs.Common.{◌≡◌, ◌+◌, ◌<◌, ◌^◌, List, true, ap, sym, subst, ◌∙◌, arith, length}
use Rattle.std.specs.Prelude.{sum_by}
use Rattle.std.proofs.lemmas.List.{take_all}
use Rattle.raid_base.specs.declared.jobs.Job.{Job}
use Rattle.script_text.specs.Script.{HostJobs, jobs_of}
use Rattle.histories.specs.Bounds.{host_requests}
use Rattle.histories.specs.Plain.{are_sized}
use Rattle.schedule_play.proofs.MakeLemmas.{jobs-sized, jobs-of-item, all-by-hosts, requests-step, IsSumWith}
use Rattle.schedule_play.proofs.making.all_requests.Goals as goal

is-listed : (c : goal.After-as_slice) → jobs_of c.args.script.now c.jobs-item.result.host ≡ c.as_slice.result.now
is-listed c = jobs-of-item c.args.script.now c.requires.playable.ranges c.loop-jobs.jobs-index c.jobs-item.result c.hosts-jobs-items.result.now c.as_slice.result.now
    c.hosts-jobs-items.ensures c.loop-jobs-test.true c.jobs-item.is (c.as_slice.ensures.value ∙ ap (λ (h : HostJobs). h.jobs) c.jobs.view_is)

pub requests_in-requires-clause-few : goal.requests_in-requires-clause-few
requests_in-requires-clause-few c =
    subst (λ (js : List Job). length js < 2 ^ 32) (is-listed c) (c.requires.jobs c.jobs-item.result.host)

pub requests_in-requires-clause-sized : goal.requests_in-requires-clause-sized
requests_in-requires-clause-sized c =
    subst (λ (js : List Job). are_sized js ≡ true) (is-listed c) (jobs-sized c.args.script.now c.requires.playable.ranges c.jobs-item.result.host)

stepped : (c : goal.After-requests_in) → IsSumWith c.args.script.now c.hosts-jobs-items.result.now c.loop-jobs.jobs-index (c.loop-jobs.requests + c.requests_in.result)
stepped c = requests-step c.args.script.now c.loop-jobs.jobs-index c.jobs-item.result c.hosts-jobs-items.result.now c.as_slice.result.now c.loop-jobs.requests c.requests_in.result
    c.hosts-jobs-items.ensures c.loop-jobs-test.true c.jobs-item.is
    (jobs-of-item c.args.script.now c.requires.playable.ranges c.loop-jobs.jobs-index c.jobs-item.result c.hosts-jobs-items.result.now c.as_slice.result.now
    c.hosts-jobs-items.ensures c.loop-jobs-test.true c.jobs-item.is (c.as_slice.ensures.value ∙ ap (λ (h : HostJobs). h.jobs) c.jobs.view_is))
    c.loop-jobs.invariant c.requests_in.ensures

pub overflow_cast-requests : goal.overflow_cast-requests
overflow_cast-requests c = omega (arith, (stepped c).most, c.requires.few)

pub overflow_add-requests : goal.overflow_add-requests
overflow_add-requests c = omega (arith, (stepped c).most, c.requires.few)

pub loop-jobs-preserved : goal.loop-jobs-preserved
loop-jobs-preserved c = (stepped c).is

pub returns : goal.returns
returns c =
    let all = ap (λ (hs : List HostJobs). sum_by (λ (h : HostJobs). host_requests c.args.script.now h.host) hs) (take_all c.loop-jobs.jobs-index c.hosts-jobs-items.result.now (omega (arith, c.loop-jobs-test.false))) in
    c.loop-jobs.invariant ∙ all ∙ ap (λ (hs : List HostJobs). sum_by (λ (h : HostJobs). host_requests c.args.script.now h.host) hs) c.hosts-jobs-items.ensures
    ∙ sym (all-by-hosts c.args.script.now c.args.script.now.hosts)
