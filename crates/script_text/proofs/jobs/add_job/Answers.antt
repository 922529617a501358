use Rattle.std.proofs.Common.{refl, sym, ap, ◌∙◌}
use Rattle.script_text.proofs.JobSteps.{job-ranges, job-after-view, host-same}
use Rattle.script_text.specs.Forms.{JobLine}
use Rattle.script_text.specs.Script.{Script}
use Rattle.script_text.specs.Steps.{work_value}
use Rattle.script_text.specs.declared.lines.Stage.TheVariants.{Body}
use Rattle.script_text.specs.Faults.{Said}
use Rattle.script_text.proofs.jobs.add_job.Goals as goal

pub task_of-task-requires-clause-range : goal.task_of-task-requires-clause-range
task_of-task-requires-clause-range c =
    let fault = host-same c.args.script.now c.args.host _ (JobLine c.args.quit (work_value c.args.work.now)) _ (c.job_fault.ensures c.args.host.jobs) c.host.view_is in
    (job-ranges c.args.script.now c.args.host c.args.quit (work_value c.args.work.now) _ fault c.in_default.is).1

pub quit_of-requires : goal.quit_of-requires
quit_of-requires c =
    let fault = host-same c.args.script.now c.args.host _ (JobLine c.args.quit (work_value c.args.work.now)) _ (c.job_fault.ensures c.args.host.jobs) c.host.view_is in
    (job-ranges c.args.script.now c.args.host c.args.quit (work_value c.args.work.now) _ fault c.in_default.is).0

pub returns-in-Ok-add_blocks : goal.returns-in-Ok-add_blocks
returns-in-Ok-add_blocks c =
    let fault = host-same c.args.script.now c.args.host _ (JobLine c.args.quit (work_value c.args.work.now)) _ (c.job_fault.ensures c.args.host.jobs) c.host.view_is in (
      sym fault ∙ c.in_default.is,
      job-after-view c.args.script.now _ c.args.host c.in-Ok.host c.args.quit _ (work_value c.args.work.now) _ _ _ c.script.view_is c.in-Ok-add_blocks.ensures c.task_of-task.ensures c.quit_of.ensures c.in-Ok.ensures c.push.ensures.items,
    )
