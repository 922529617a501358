-- An attempt takes each slot once at most, and claims in the way of its kind.
use Rattle.std.specs.Prelude.{◌≡◌, ◌⊎◌, ℕ, ◌<◌, ◌≤◌, List, [], ◌∷◌, Result}
use Rattle.raid_base.specs.declared.numbers.BayNo.{BayNo}
use Rattle.raid_base.specs.declared.numbers.Number.{Number}
use Rattle.raid_base.specs.declared.numbers.Spent.{Spent}
use Rattle.raid_base.specs.declared.messages.How.{How}
use Rattle.raid_base.specs.declared.messages.How.TheVariants.{Plain, Mend, Seize}
use Rattle.raid_base.specs.declared.messages.Request.{Request}
use Rattle.raid_base.specs.declared.messages.Request.TheVariants.{Share, Claim}
use Rattle.raid_base.specs.declared.messages.Reply.{Reply}
use Rattle.raid_base.specs.Steps.{Steps, Asks, Draws, Ends}
use Rattle.stripe_layout.specs.Placement.{parity_bay}
use Rattle.attempts.specs.declared.Repair.{Repair}
use Rattle.attempts.specs.declared.Rescue.{Rescue}
use Rattle.attempts.specs.Taking.{Access}
use Rattle.attempts.specs.Reading.{read_steps}
use Rattle.attempts.specs.Writing.{write_steps}
use Rattle.attempts.specs.Mending.{mend_steps}
use Rattle.attempts.specs.Recovery.{recover_steps}
use Rattle.attempts.specs.Phases.{Slot, IsIn, RowsDiffer}

-- the slots that a request takes: that of a share or a claim
abbrev pub with_taken : List Slot → BayNo → Request → List Slot
with_taken taken bay (Share row id want) = record { bay = bay; row = row } ∷ taken
with_taken taken bay (Claim row id how mask want) = record { bay = bay; row = row } ∷ taken
with_taken taken bay _ = taken

-- a share or a claim is of a slot that was not taken before
abbrev pub MayTake : List Slot → BayNo → Request → Type 0
MayTake taken bay (Share row id want) = IsIn (record { bay = bay; row = row }) taken → ⊥
MayTake taken bay (Claim row id how mask want) = IsIn (record { bay = bay; row = row }) taken → ⊥
MayTake taken bay _ = Unit {0}

-- Whatever the replies and the numbers drawn: each slot is taken once at most.
abbrev pub Once : {A : Type 0} → List Slot → Steps A → Type 0
Once taken (Ends a) = Unit {0}
Once taken (Draws k) = (d : Result Number Spent) → Once taken (k d)
Once taken (Asks e s c k) = MayTake taken e.bay e.request × ((r : Reply) → Once (with_taken taken e.bay e.request) (k r))

-- a claim is made in this way, and has a mask only where a write claims a parity
abbrev pub ClaimsSo : ℕ → How → BayNo → Request → Type 0
ClaimsSo n kind bay (Claim row id how mask want) = (how ≡ kind) × ((mask ≡ 0) ⊎ ((kind ≡ Plain) × (bay ≡ parity_bay n row)))
ClaimsSo n kind bay _ = Unit {0}

abbrev pub EachClaims : {A : Type 0} → ℕ → How → Steps A → Type 0
EachClaims n kind (Ends a) = Unit {0}
EachClaims n kind (Draws k) = (d : Result Number Spent) → EachClaims n kind (k d)
EachClaims n kind (Asks e s c k) = ClaimsSo n kind e.bay e.request × ((r : Reply) → EachClaims n kind (k r))

abbrev pub AttemptsAskOnce : Type 0
AttemptsAskOnce =
    ((a : Access) → 3 ≤ a.n → RowsDiffer a.parts → Once [] (read_steps a))
    × ((a : Access) → 3 ≤ a.n → RowsDiffer a.parts → Once [] (write_steps a))
    × ((m : Repair) → 3 ≤ m.n → m.target.0 < m.n → Once [] (mend_steps m))
    × ((r : Rescue) → 3 ≤ r.n → Once [] (recover_steps r))

abbrev pub ClaimsAreOfTheirKind : Type 0
ClaimsAreOfTheirKind =
    ((a : Access) → EachClaims a.n Plain (read_steps a)) × ((a : Access) → EachClaims a.n Plain (write_steps a))
    × ((m : Repair) → EachClaims m.n Mend (mend_steps m)) × ((r : Rescue) → EachClaims r.n Seize (recover_steps r))
