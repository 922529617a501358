use Rattle.std.proofs.Common.{map, not, drop}
use Rattle.report_text.specs.Report.{row_lines}
use Rattle.report_text.proofs.Appending.{Begins}
use Rattle.report_text.proofs.sections.put_rows.Given as goal

abbrev pub invariant-loop-row : goal.invariant-loop-row
invariant-loop-row g l =
    Begins g.K.Sink.tells g.K.Sink.written g.K.Sink.faults l.initial.sink (row_lines 0 (map not l.opened)) (row_lines l.row (map not (drop l.row l.opened))) l.sink
