use Rattle.std.proofs.Common.{◌≡◌, false, true}
use Rattle.text_lines.proofs.WordLemmas.{piece_more, piece_none}
use Rattle.text_lines.proofs.words.is_joined.Goals as goal

pub loop-piece-preserved : goal.loop-piece-preserved
loop-piece-preserved c =
    let cases = c.in-Some.ensures.cases in
    piece_more _ c.args.pieces.now c.loop-piece.piece-index _ _ _ c.loop-piece-test.true cases.0 cases.1 c.loop-piece.invariant

pub returns-in-None : goal.returns-in-None
returns-in-None c =
    (λ h. absurd (let no : false ≡ true = h in cc), λ p. absurd (piece_none _ c.args.pieces.now c.loop-piece.piece-index _ _ c.loop-piece-test.true c.in-None.ensures.cases c.loop-piece.invariant p))
