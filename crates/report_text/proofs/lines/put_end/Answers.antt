use Rattle.report_text.proofs.lines.put_end.Goals as goal

pub returns-in-TooManyRows : goal.returns-in-TooManyRows
returns-in-TooManyRows g c = rw c.in-TooManyRows.is (rw c.from-in-TooManyRows.ensures at c.put_number-in-TooManyRows.ensures)
