use Rattle.std.proofs.Common.{drop, arith, ◌+◌}
use Rattle.report_text.proofs.Appending.{begins, begins-then, begins-fails, begins-ends}
use Rattle.report_text.proofs.JobLookup.{jobs_left, jobs-turn, jobs-end}
use Rattle.report_text.proofs.jobs.put_jobs.Goals as goal

pub loop-ended-init : goal.loop-ended-init
loop-ended-init g c = begins _ _

pub returns-in_err-put_job : goal.returns-in_err-put_job
returns-in_err-put_job g c =
    begins-fails (jobs_left c.args.script.now (drop (c.loop-ended.ended-index + 1) c.args.results.now) c.split_contents.result.1.now) c.loop-ended.invariant
    (jobs-turn c.args.script.now c.args.results.now c.loop-ended.left.now _ _ c.loop-ended.ended-index c.contents_of.result c.flags_of.result _ (omega arith) c.contents_of.ensures c.split_contents.ensures.first c.split_contents.ensures.others c.flags_of.ensures)
    c.in_err-put_job.ensures c.from_residual.ensures.0

pub loop-ended-preserved : goal.loop-ended-preserved
loop-ended-preserved g c =
    begins-then _ c.loop-ended.invariant
    (jobs-turn c.args.script.now c.args.results.now c.loop-ended.left.now _ _ c.loop-ended.ended-index c.contents_of.result c.flags_of.result _ (omega arith) c.contents_of.ensures c.split_contents.ensures.first c.split_contents.ensures.others c.flags_of.ensures)
    c.in_ok-put_job.ensures

pub returns : goal.returns
returns g c = begins-ends c.loop-ended.invariant (jobs-end c.args.script.now c.args.results.now c.loop-ended.left.now c.loop-ended.ended-index (omega arith))
