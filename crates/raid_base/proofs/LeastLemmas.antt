-- The number that a host draws is the least above the floor.
use Rattle.std.proofs.Common.{◌≡◌, ℕ, ◌+◌, ◌*◌, ◌/◌, ◌%◌, ◌^◌, ◌<◌, ◌≤◌, nat_lt, true, false, arith, if◌then◌else◌, refl}
use Rattle.std.proofs.lemmas.Bool.Decides.{nat_tests}
use Rattle.raid_base.specs.Numbers.{least_above}
use Rattle.raid_base.specs.Least.{IsLeastAbove, IsSpentAbove}

above_by : (host floor : ℕ) (b : _) → nat_lt (floor % 16) host ≡ b → host < 16
    → IsLeastAbove host floor (if b then 16 * (floor / 16) + host else 16 * (floor / 16) + 16 + host)
above_by host floor true e h = let t : floor % 16 < host = grind (arith, nat_tests) in
    record { is = record { above = omega arith; leaves = omega arith }; least = λ m a. omega (arith, a.above, a.leaves) }
above_by host floor false e h = let t : host ≤ floor % 16 = grind (arith, nat_tests) in
    record { is = record { above = omega arith; leaves = omega arith }; least = λ m a. omega (arith, a.above, a.leaves) }

pub least_above-least : (host floor : ℕ) → host < 16 → IsLeastAbove host floor (least_above host floor)
least_above-least host floor h = above_by host floor (nat_lt (floor % 16) host) refl h

-- a number is left below the end, or none is
pub spent-least : (host floor n : ℕ) → host < 16 → n ≡ least_above host floor → 2 ^ 62 ≤ n → IsSpentAbove host floor
spent-least host floor n h e le m a =
    let l : least_above host floor ≤ m = (least_above-least host floor h).least m a in omega arith

pub least-not_spent : (host floor n : ℕ) → host < 16 → n ≡ least_above host floor → n < 2 ^ 62 → IsSpentAbove host floor → ⊥
least-not_spent host floor n h e lt s =
    let k : 2 ^ 62 ≤ least_above host floor = s (least_above host floor) (least_above-least host floor h).is in omega arith
