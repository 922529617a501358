use Rattle.std.proofs.Common.{List, ℕ, take, Ok}
use Rattle.std.specs.List.{flat_map}
use Rattle.std.specs.Borrow.{Bor}
use Rattle.text_lines.specs.Writing.{Writes}
use Rattle.text_lines.proofs.writing.write_pieces.Given as goal

abbrev pub invariant-loop-piece : goal.invariant-loop-piece
invariant-loop-piece g l = Writes g.K.Sink.written g.K.Sink.tells g.K.Sink.faults l.initial.sink l.sink (Ok tt) (flat_map (λ (piece : Bor (List ℕ)). piece.now) (take l.piece-index l.pieces))
