use Rattle.std.proofs.Common.{ap}
use Rattle.std.specs.Prelude.{decimal}
use Rattle.raid_base.specs.declared.numbers.RowNo.{RowNo}
use Rattle.text_lines.specs.Lines.{spaced}
use Rattle.text_lines.proofs.WriteLemmas.{handed_on, writes_stopped, writes_text}
use Rattle.script_text.proofs.write.write_rows.Goals as goal

pub returns-in_err-write_number : goal.returns-in_err-write_number
returns-in_err-write_number g c =
    handed_on _ _ _ _ _ _ _ _ c.from_residual.ensures.0 (writes_stopped g.K.Sink.written g.K.Sink.tells g.K.Sink.faults (λ (row : RowNo). spaced (decimal row.0)) c.args.rows.now c.loop-row.row-index (record { 0 = 0 }) _ _ _ _ c.loop-row-test.true c.loop-row.invariant (writes_text _ _ _ _ _ _ _ _ (ap (λ n. spaced (decimal n)) c.from.ensures) c.in_err-write_number.ensures))
