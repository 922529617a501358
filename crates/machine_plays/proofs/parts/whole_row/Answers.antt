use Rattle.std.proofs.Common.{◌++◌, [], ◌∷◌, refl, ap, sym, ◌∙◌, subst, arith}
use Rattle.raid_base.specs.declared.jobs.RowPart.{RowPart}
use Rattle.attempts.specs.Parts.{blocks_in}
use Rattle.virtual_objects.specs.RowParts.{AreRowParts}
use Rattle.machine_plays.proofs.PartLemmas.{one-part}
use Rattle.machine_plays.proofs.parts.whole_row.Goals as goal

pub returns-clause-parts : goal.returns-clause-parts
returns-clause-parts c =
    let part : RowPart = record { row = record { 0 = 5 }; mask = 7; at = 0; count = 3 } in
    subst (AreRowParts 4) (sym (c.push.ensures.items ∙ ap (λ xs. xs ++ part ∷ []) c.new-parts.ensures))
    (one-part part (record { some = omega arith; within = omega arith; counted = refl }) refl)

pub returns-clause-count : goal.returns-clause-count
returns-clause-count c =
    let part : RowPart = record { row = record { 0 = 5 }; mask = 7; at = 0; count = 3 } in
    ap blocks_in (c.push.ensures.items ∙ ap (λ xs. xs ++ part ∷ []) c.new-parts.ensures)
