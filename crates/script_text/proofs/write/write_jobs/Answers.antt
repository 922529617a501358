use Rattle.raid_base.specs.declared.jobs.Job.{Job}
use Rattle.text_lines.specs.Lines.{line}
use Rattle.script_text.specs.Text.{job_words}
use Rattle.text_lines.proofs.WriteLemmas.{handed_on, writes_stopped_item}
use Rattle.script_text.proofs.write.write_jobs.Goals as goal

pub returns-in_err-write_job : goal.returns-in_err-write_job
returns-in_err-write_job g c =
    handed_on _ _ _ _ _ _ _ _ c.from_residual.ensures.0 (writes_stopped_item g.K.Sink.written g.K.Sink.tells g.K.Sink.faults (λ (job : Job). line (job_words c.args.script.now job)) c.args.jobs.now c.loop-job.job-index c.job-item.result _ _ _ c.in_err-write_job.field-0.0 c.loop-job-test.true c.job-item.is c.loop-job.invariant c.in_err-write_job.ensures)
