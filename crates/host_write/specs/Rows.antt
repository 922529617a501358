-- What is made of a row.
use Rattle.std.specs.Prelude.{◌≡◌, ℕ, List, ◌++◌, zip, Option, option_map}
use Rattle.raid_base.specs.declared.cells.Cell.{Cell}
use Rattle.raid_base.specs.declared.messages.Grant.{Grant}
use Rattle.stripe_layout.specs.Placement.{units_in}
use Rattle.attempts.specs.Taking.{Row, with_parity}
use Rattle.attempts.specs.Reading.{parity_in}
use Rattle.attempts.specs.Puts.{folded, missing_units}

-- the row with this parity is that one, and with none there is none
abbrev pub MakesRow : Row → Option (Option Grant) → Option Row → Type 0
MakesRow row parity made = option_map (λ parity. with_parity parity row) parity ≡ made

-- the old parity of a row of n devices, with the changes of its wanted units to these blocks
abbrev pub changed_parity : ℕ → Row → List (List ℕ) → Cell
changed_parity n row blocks = folded (parity_in row) (units_in n row.part.mask) row.wanted blocks

-- the units that the parity makes: those that are missing, and those left to it
abbrev pub units_by_parity : ℕ → Row → List ℕ → List ℕ
units_by_parity n row left = missing_units (zip (units_in n row.part.mask) row.wanted) ++ left
