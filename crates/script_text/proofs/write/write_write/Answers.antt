use Rattle.text_lines.proofs.WriteLemmas.{handed_on, two_first, three_second, three_last}
use Rattle.script_text.proofs.WriteTexts.{write_is}
use Rattle.script_text.proofs.write.write_write.Goals as goal

pub returns-in_err-write_place : goal.returns-in_err-write_place
returns-in_err-write_place g c =
    handed_on _ _ _ _ _ _ _ _ c.from_residual.ensures.0 (two_first g.K.Sink.written g.K.Sink.tells g.K.Sink.faults _ _ c.in_err-write_place.field-0.0 _ _ _ (write_is c.args.object.now c.args.first c.args.blocks.now) c.in_err-write_place.ensures)

pub returns-in_err-write_blocks : goal.returns-in_err-write_blocks
returns-in_err-write_blocks g c =
    handed_on _ _ _ _ _ _ _ _ c.from_residual-in_err-write_blocks.ensures.0 (three_second g.K.Sink.written g.K.Sink.tells g.K.Sink.faults _ _ _ c.in_err-write_blocks.field-0.0 _ _ _ _ (write_is c.args.object.now c.args.first c.args.blocks.now) c.in_ok-write_place.ensures c.in_err-write_blocks.ensures)

pub returns : goal.returns
returns g c =
    three_last g.K.Sink.written g.K.Sink.tells g.K.Sink.faults _ _ _ _ _ _ _ _ _ (write_is c.args.object.now c.args.first c.args.blocks.now) c.in_ok-write_place.ensures c.in_ok-write_blocks.ensures c.write_piece.ensures
