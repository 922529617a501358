use Rattle.std.proofs.Common.{take, Ok}
use Rattle.std.specs.List.{flat_map}
use Rattle.std.specs.Prelude.{decimal}
use Rattle.raid_base.specs.declared.numbers.RowNo.{RowNo}
use Rattle.text_lines.specs.Lines.{spaced}
use Rattle.text_lines.specs.Writing.{Writes}
use Rattle.script_text.proofs.write.write_rows.Given as goal

abbrev pub invariant-loop-row : goal.invariant-loop-row
invariant-loop-row g l = Writes g.K.Sink.written g.K.Sink.tells g.K.Sink.faults l.initial.sink l.sink (Ok tt) (flat_map (λ (row : RowNo). spaced (decimal row.0)) (take l.row-index l.rows))
