use Rattle.std.proofs.Common.{map, not, drop, arith, ◌+◌}
use Rattle.report_text.specs.Report.{row_lines}
use Rattle.report_text.proofs.Appending.{begins, begins-then, begins-fails, begins-ends}
use Rattle.report_text.proofs.RowLines.{rows-turn, rows-end}
use Rattle.report_text.proofs.sections.put_rows.Goals as goal

pub loop-row-init : goal.loop-row-init
loop-row-init g c = begins _ _

pub returns-in_err-put_row : goal.returns-in_err-put_row
returns-in_err-put_row g c =
    begins-fails (row_lines (c.loop-row.row + 1) (map not (drop (c.loop-row.row + 1) c.args.opened.now))) c.loop-row.invariant (rows-turn c.args.opened.now c.loop-row.row (omega arith)) c.in_err-put_row.ensures c.from_residual.ensures.0

pub loop-row-preserved : goal.loop-row-preserved
loop-row-preserved g c = begins-then _ c.loop-row.invariant (rows-turn c.args.opened.now c.loop-row.row (omega arith)) c.in_ok-put_row.ensures

pub returns : goal.returns
returns g c = begins-ends c.loop-row.invariant (rows-end c.args.opened.now c.loop-row.row (omega arith))
