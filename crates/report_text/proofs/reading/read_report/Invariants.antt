use Rattle.std.proofs.Common.{length}
use Rattle.report_text.proofs.ReportReading.{HasRead}
use Rattle.report_text.proofs.reading.read_report.Given as goal

abbrev pub invariant-loop-left : goal.invariant-loop-left
invariant-loop-left l = HasRead l.bytes l.left l.draft l.line

abbrev pub decreases-loop-left : goal.decreases-loop-left
decreases-loop-left l = length l.left
