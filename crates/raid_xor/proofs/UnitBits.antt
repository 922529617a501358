-- What it means that a mask has a unit.
use Rattle.std.proofs.Common.{◌≡◌, ◌∙◌, ℕ, ◌+◌, ◌*◌, ◌^◌, ◌<◌, ◌≤◌, true, false, bit_and, bit_or, ap, arith}
use Rattle.std.specs.Int.{bit_at}
use Rattle.std.proofs.lemmas.Nat.{and_le_l, or_lt, or_disjoint}
use Rattle.std.proofs.lemmas.Nat.Bits.{shr_and_one, and_pow, bit_at-lt}
use Rattle.std.proofs.lemmas.Bool.Decides.{nat_tests}
use Rattle.std.proofs.Math.Nat.{zero-mul}
use Rattle.std.proofs.Math.Pow.{pow-lt}
use Rattle.raid_base.specs.Cells.{has_unit}

pub bit_of_true : (mask unit : ℕ) → has_unit mask unit ≡ true → bit_at mask unit ≡ 1
bit_of_true mask unit e = rw (← shr_and_one mask unit) (grind (arith, nat_tests))

pub bit_of_false : (mask unit : ℕ) → has_unit mask unit ≡ false → bit_at mask unit ≡ 0
bit_of_false mask unit e =
    let other = rw shr_and_one at e in
    let below = bit_at-lt mask unit in
    grind (arith, nat_tests)

pub le_of_has : (mask unit : ℕ) → has_unit mask unit ≡ true → 2 ^ unit ≤ mask
le_of_has mask unit e =
    let is : bit_and mask (2 ^ unit) ≡ 1 * 2 ^ unit = and_pow mask unit ∙ ap (λ b. b * 2 ^ unit) (bit_of_true mask unit e) in
    omega (arith, and_le_l mask (2 ^ unit))

pub or_of_not : (mask unit : ℕ) → has_unit mask unit ≡ false → bit_or mask (2 ^ unit) ≡ mask + 2 ^ unit
or_of_not mask unit e =
    let none : bit_and mask (2 ^ unit) ≡ 0 = and_pow mask unit ∙ ap (λ b. b * 2 ^ unit) (bit_of_false mask unit e) ∙ zero-mul (2 ^ unit) in
    or_disjoint mask (2 ^ unit) none

pub room_of_not : (mask unit width : ℕ) → has_unit mask unit ≡ false → mask < 2 ^ width → unit < width → mask + 2 ^ unit < 2 ^ width
room_of_not mask unit width e m u =
    let both = or_lt width mask (2 ^ unit) m (pow-lt u) in
    rw (or_of_not mask unit e) at both
