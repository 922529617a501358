use Rattle.text_lines.proofs.WriteLemmas.{handed_on, two_first, two_last}
use Rattle.script_text.proofs.WriteTexts.{job_is}
use Rattle.script_text.proofs.write.write_job.Goals as goal

pub returns-in_err-write_quit : goal.returns-in_err-write_quit
returns-in_err-write_quit g c =
    handed_on _ _ _ _ _ _ _ _ c.from_residual.ensures.0 (two_first g.K.Sink.written g.K.Sink.tells g.K.Sink.faults _ _ c.in_err-write_quit.field-0.0 _ _ _ (job_is c.args.script.now c.args.job.now) c.in_err-write_quit.ensures)

pub returns : goal.returns
returns g c =
    two_last g.K.Sink.written g.K.Sink.tells g.K.Sink.faults _ _ _ _ _ _ _ (job_is c.args.script.now c.args.job.now) c.in_ok-write_quit.ensures c.write_task.ensures
