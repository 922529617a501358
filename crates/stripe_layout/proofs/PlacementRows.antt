-- Where the parity and the units of some rows stand.
use Rattle.std.proofs.Common.{◌≡◌, ℕ, [], ◌∷◌, map, Some, None, refl}
use Rattle.raid_base.specs.declared.numbers.RowNo.{RowNo}
use Rattle.stripe_layout.specs.Placement.{bay, parity_bay, bay_of, unit_at, units}

abbrev row : ℕ → RowNo
row k = record { 0 = k }

parities : map (λ k. parity_bay 5 (row k)) (0 ∷ 1 ∷ 2 ∷ 3 ∷ 4 ∷ 5 ∷ []) ≡ map bay (4 ∷ 3 ∷ 2 ∷ 1 ∷ 0 ∷ 4 ∷ [])
parities = refl

unit : bay_of 5 (row 1) 0 ≡ bay 4
unit = refl

none : unit_at 5 (row 1) (bay 3) ≡ None
none = refl

back : map (λ unit. unit_at 5 (row 1) (bay_of 5 (row 1) unit)) (units 5) ≡ map (λ u. Some u) (units 5)
back = refl
