use Rattle.std.proofs.Common.{◌≡◌, List, ℕ, drop}
use Rattle.std.specs.Prelude.{◌↔◌}
use Rattle.std.specs.List.{flat_map}
use Rattle.std.specs.Borrow.{Bor}
use Rattle.text_lines.proofs.words.is_joined.Given as goal

abbrev pub invariant-loop-piece : goal.invariant-loop-piece
invariant-loop-piece l =
    (l.text ≡ flat_map (λ (piece : Bor (List ℕ)). piece.now) l.pieces)
    ↔ (l.rest ≡ flat_map (λ (piece : Bor (List ℕ)). piece.now) (drop l.piece-index l.pieces))
