-- What the plans of a row promise.
use Rattle.std.specs.Prelude.{◌≡◌, ℕ, ◌+◌, ◌-◌, ◌≤◌, Bool, not, List, ◌++◌, map, filter}
use Rattle.raid_base.specs.declared.cells.Cell.{Cell}
use Rattle.raid_base.specs.declared.jobs.Plan.{Plan}
use Rattle.raid_base.specs.declared.jobs.Plan.TheVariants.{Full, Small, Reconstruct}
use Rattle.raid_xor.specs.Laws.{AreBlocks}
use Rattle.raid_xor.specs.Parities.{parity_of, fold_whole}
use Rattle.row_plans.specs.Plans.{choose}

-- how many cells a plan reads for k of d units: the wanted ones and the parity, the others, or none
abbrev pub reads : Plan → ℕ → ℕ → ℕ
reads Small d k = k + 1
reads Reconstruct d k = d - k
reads Full d k = 0

-- a plan that reads nothing serves where all units are wanted
abbrev pub Serves : Plan → ℕ → ℕ → Type 0
Serves Small d k = Unit {0}
Serves Reconstruct d k = Unit {0}
Serves Full d k = k ≡ d

-- the plan serves, and of those that do it reads the fewest cells
abbrev pub PicksFewest : Type 0
PicksFewest = (d k : ℕ) → 1 ≤ k → k ≤ d → Serves (choose d k) d k × ((plan : Plan) → Serves plan d k → reads (choose d k) d k ≤ reads plan d k)

-- the parity of cells is made of the parities of its parts
abbrev pub ParitiesAdd : Type 0
ParitiesAdd = (xs ys : List Cell) → AreBlocks xs → AreBlocks ys → parity_of (xs ++ ys) ≡ fold_whole (parity_of xs) (parity_of ys)

-- some units first and then the others give the parity of all
abbrev pub OrderIsFree : Type 0
OrderIsFree = (cell : ℕ → Cell) (chosen : ℕ → Bool) (units : List ℕ) → AreBlocks (map cell units) →
    parity_of (map cell (filter chosen units) ++ map cell (filter (λ unit. not (chosen unit)) units)) ≡ parity_of (map cell units)
