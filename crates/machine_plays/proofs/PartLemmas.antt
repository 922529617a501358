-- Parts of one row, and of two.
use Rattle.std.proofs.Common.{◌≡◌, ℕ, [], ◌∷◌, eqb, refl, arith}
use Rattle.std.specs.List.{IsDistinct}
use Rattle.std.proofs.lemmas.List.Elements.{All-cons, All-nil}
use Rattle.raid_base.specs.declared.jobs.RowPart.{RowPart}
use Rattle.virtual_objects.specs.RowParts.{IsPart, AreRowParts}

apart : (row : ℕ) → IsDistinct eqb (row ∷ [])
unfolding IsDistinct
apart row = (tt, tt)

-- one row's
pub one-part : (part : RowPart) → IsPart 4 part → part.at ≡ 0 → AreRowParts 4 (part ∷ [])
one-part part is begins = record {
  some = omega arith;
  few = omega arith;
  rows_apart = apart part.row.0;
  each = All-cons (IsPart 4) part [] is (All-nil (IsPart 4));
  in_turn = (begins, tt);
}

both_apart : IsDistinct eqb (5 ∷ 6 ∷ [])
unfolding IsDistinct
both_apart = ((refl, tt), (tt, tt))

-- one unit of each of two rows
pub both-parts : AreRowParts 4 (record { row = record { 0 = 5 }; mask = 4; at = 0; count = 1 } ∷ record { row = record { 0 = 6 }; mask = 1; at = 1; count = 1 } ∷ [])
both-parts =
    let first : RowPart = record { row = record { 0 = 5 }; mask = 4; at = 0; count = 1 } in
    let second : RowPart = record { row = record { 0 = 6 }; mask = 1; at = 1; count = 1 } in
    record {
      some = omega arith;
      few = omega arith;
      rows_apart = both_apart;
      each =
          All-cons (IsPart 4) first (second ∷ []) (record { some = omega arith; within = omega arith; counted = refl })
          (All-cons (IsPart 4) second [] (record { some = omega arith; within = omega arith; counted = refl }) (All-nil (IsPart 4)));
      in_turn = (refl, (refl, tt));
    }
