use Rattle.std.proofs.Common.{◌++◌, [], ◌∷◌, None, get_or, take, append_assoc, ap, sym, ◌∙◌, arith}
use Rattle.attempts.specs.Reading.{cells_in}
use Rattle.attempts.proofs.ContentLemmas.{cells_more}
use Rattle.attempts.proofs.contents.push_cells.Goals as goal

pub loop-grant-preserved : goal.loop-grant-preserved
loop-grant-preserved c =
    let grants = c.args.grants.now in
    let i = c.loop-grant.grant-index in (
      c.push_cell.ensures.items
          ∙ ap (λ xs. xs ++ cells_in (get_or grants i None ∷ [])) c.loop-grant.invariant.0
          ∙ append_assoc c.args.cells.now.items (cells_in (take i grants)) (cells_in (get_or grants i None ∷ []))
          ∙ ap (λ xs. c.args.cells.now.items ++ xs) (sym (cells_more grants i None c.loop-grant-test.true)),
      omega arith,
    )
