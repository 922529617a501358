-- The parts of a job are parts for an attempt.
use Rattle.std.proofs.Common.{◌≡◌, ℕ, ◌+◌, ◌*◌, ◌-◌, ◌≤◌, ◌&&◌, nat_le, not, Bool, true, false, IsTrue, List, [], ◌∷◌, length, refl, ◌∙◌, arith}
use Rattle.std.specs.List.{All, list_all, range_with_len}
use Rattle.std.proofs.lemmas.Bool.Decides.{nat_tests}
use Rattle.std.proofs.lemmas.List.Elements.{All-head, All-tail}
use Rattle.std.proofs.lemmas.List.Filters.{length-filter_both}
use Rattle.std.proofs.lemmas.List.FromFn.{length-range_with_len}
use Rattle.std.proofs.lemmas.List.Sums.{sum_by_from}
use Rattle.raid_base.specs.declared.jobs.RowPart.{RowPart}
use Rattle.raid_base.specs.Cells.{has_unit}
use Rattle.stripe_layout.specs.Placement.{units_in}
use Rattle.virtual_objects.specs.RowParts.{IsPart, AreInTurn, AreRowParts}
use Rattle.attempts.specs.Parts.{blocks_in, is_part, are_parts}

-- a part has no more units than a row
part-most : (n : ℕ) (part : RowPart) → IsPart n part → part.count ≤ n - 1
part-most n part p =
    omega (arith, p.counted, length-filter_both (has_unit part.mask) (λ unit. not (has_unit part.mask unit)) (λ _. refl) (range_with_len 0 (n - 1)), length-range_with_len 0 (n - 1))

pub blocks-cons : (part : RowPart) (parts : List RowPart) → blocks_in (part ∷ parts) ≡ part.count + blocks_in parts
blocks-cons part parts = sum_by_from (λ (p : RowPart). p.count) (0 + part.count) parts ∙ omega arith

few-blocks : (n : ℕ) (parts : List RowPart) → n ≤ 16 → All (IsPart n) parts → blocks_in parts ≤ 15 * length parts
few-blocks n [] h all = omega arith
few-blocks n (part ∷ parts) h all =
    omega (arith, blocks-cons part parts, part-most n part (All-head (IsPart n) part parts all), few-blocks n parts h (All-tail (IsPart n) part parts all))

one-part : (n total : ℕ) (part : RowPart) → IsPart n part → part.at + part.count ≤ total → is_part n total part ≡ true
one-part n total part p h =
    let some : 1 ≤ part.count = p.some in
    let counted : length (units_in n part.mask) ≡ part.count = p.counted in
    grind (arith, nat_tests)

both : (a b : Bool) → a ≡ true → b ≡ true → (a && b) ≡ true
both true b e f = f
both false b e f = cc

each-part : (n total at : ℕ) (parts : List RowPart) → All (IsPart n) parts → AreInTurn at parts → at + blocks_in parts ≤ total → list_all (is_part n total) parts ≡ true
each-part n total at [] all turns h = refl
each-part n total at (part ∷ parts) all turns h =
    let more : blocks_in (part ∷ parts) ≡ part.count + blocks_in parts = blocks-cons part parts in
    let begins : part.at ≡ at = turns.0 in
    both (is_part n total part) (list_all (is_part n total) parts)
    (one-part n total part (All-head (IsPart n) part parts all) (omega arith))
    (each-part n total (at + part.count) parts (All-tail (IsPart n) part parts all) turns.1 (omega arith))

pub formed : (n : ℕ) (parts : List RowPart) → n ≤ 16 → AreRowParts n parts → IsTrue (are_parts n parts)
formed n parts h p =
    let some : 1 ≤ length parts = p.some in
    let few : length parts ≤ 8 = p.few in
    let blocks : blocks_in parts ≤ 15 * length parts = few-blocks n parts h p.each in
    let a : (nat_le 1 (length parts) && nat_le (length parts) 8 && nat_le (blocks_in parts) 120) ≡ true = grind (arith, nat_tests) in
    both (nat_le 1 (length parts) && nat_le (length parts) 8 && nat_le (blocks_in parts) 120) (list_all (is_part n (blocks_in parts)) parts) a
    (each-part n (blocks_in parts) 0 parts p.each p.in_turn (omega arith))
