use Rattle.std.proofs.Common.{drop}
use Rattle.report_text.proofs.Appending.{Begins}
use Rattle.report_text.proofs.JobLookup.{jobs_left}
use Rattle.report_text.proofs.jobs.put_jobs.Given as goal

abbrev pub invariant-loop-ended : goal.invariant-loop-ended
invariant-loop-ended g l =
    Begins g.K.Sink.tells g.K.Sink.written g.K.Sink.faults l.initial.sink (jobs_left l.script l.results l.contents) (jobs_left l.script (drop l.ended-index l.results) l.left) l.sink
