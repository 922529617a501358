use Rattle.std.proofs.Common.{◌++◌, [], ◌∷◌, List, ap, sym, ◌∙◌, subst}
use Rattle.raid_base.specs.declared.jobs.RowPart.{RowPart}
use Rattle.virtual_objects.specs.RowParts.{AreRowParts}
use Rattle.machine_plays.proofs.PartLemmas.{both-parts}
use Rattle.machine_plays.proofs.parts.two_rows.Goals as goal

pub returns-clause-parts : goal.returns-clause-parts
returns-clause-parts c =
    let first : RowPart = record { row = record { 0 = 5 }; mask = 4; at = 0; count = 1 } in
    let second : RowPart = record { row = record { 0 = 6 }; mask = 1; at = 1; count = 1 } in
    let one = c.push.ensures.items ∙ ap (λ (xs : List RowPart). xs ++ first ∷ []) c.new-parts.ensures in
    subst (AreRowParts 4) (sym (c.push-2.ensures.items ∙ ap (λ (xs : List RowPart). xs ++ second ∷ []) one)) both-parts
