use Rattle.text_lines.proofs.WriteLemmas.{handed_on, writes_stopped}
use Rattle.text_lines.proofs.writing.write_pieces.Goals as goal

pub returns-in_err-write_piece : goal.returns-in_err-write_piece
returns-in_err-write_piece g c =
    handed_on _ _ _ _ _ _ _ _ c.from_residual.ensures.0 (writes_stopped g.K.Sink.written g.K.Sink.tells g.K.Sink.faults _ c.args.pieces.now c.loop-piece.piece-index _ _ _ _ _ c.loop-piece-test.true c.loop-piece.invariant c.in_err-write_piece.ensures)
