use Rattle.std.proofs.Common.{take, Ok}
use Rattle.std.specs.List.{flat_map}
use Rattle.raid_base.specs.declared.jobs.Job.{Job}
use Rattle.text_lines.specs.Lines.{line}
use Rattle.script_text.specs.Text.{job_words}
use Rattle.text_lines.specs.Writing.{Writes}
use Rattle.script_text.proofs.write.write_jobs.Given as goal

abbrev pub invariant-loop-job : goal.invariant-loop-job
invariant-loop-job g l = Writes g.K.Sink.written g.K.Sink.tells g.K.Sink.faults l.initial.sink l.sink (Ok tt) (flat_map (λ (job : Job). line (job_words l.script job)) (take l.job-index l.jobs))
