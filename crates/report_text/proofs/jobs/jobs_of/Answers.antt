use Rattle.std.proofs.Common.{ap, sym, ◌∙◌}
use Rattle.script_text.specs.Script.{HostJobs}
use Rattle.report_text.proofs.JobLookup.{found-here, found-later, found-none}
use Rattle.report_text.proofs.jobs.jobs_of.Goals as goal

pub returns-then-jobs-host : goal.returns-then-jobs-host
returns-then-jobs-host c =
    let number = ap (λ (h : HostJobs). h.host.0) c.jobs.view_is in
    c.as_slice.ensures.value ∙ ap (λ (h : HostJobs). h.jobs) c.jobs.view_is
    ∙ sym (c.loop-jobs.invariant ∙ found-here c.args.host c.args.hosts.now c.loop-jobs.jobs-index c.jobs-item.result c.loop-jobs-test.true c.jobs-item.is (sym number ∙ c.if-jobs-host.true))

pub loop-jobs-preserved : goal.loop-jobs-preserved
loop-jobs-preserved c =
    let number = ap (λ (h : HostJobs). h.host.0) c.jobs.view_is in
    c.loop-jobs.invariant ∙ found-later c.args.host c.args.hosts.now c.loop-jobs.jobs-index c.jobs-item.result c.loop-jobs-test.true c.jobs-item.is (λ e. c.if-jobs-host.false (number ∙ e))

pub returns : goal.returns
returns c = sym (c.loop-jobs.invariant ∙ found-none c.args.host c.args.hosts.now c.loop-jobs.jobs-index c.loop-jobs-test.false)
