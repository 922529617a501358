-- What every attempt keeps to, whatever the replies: what it may ask, how much, and how it may end.
use Rattle.std.specs.Prelude.{◌≡◌, ℕ, zero, suc, ◌-◌, ◌*◌, ◌^◌, ◌<◌, ◌≤◌, true, length, [], Option, Some, None, IfSome, Result, Ok, Err}
use Rattle.raid_base.specs.declared.numbers.Number.{Number}
use Rattle.raid_base.specs.declared.numbers.Spent.{Spent}
use Rattle.raid_base.specs.declared.messages.Request.{Request}
use Rattle.raid_base.specs.declared.messages.Request.TheVariants.{Share, Claim, Confirm, Put, Release, Lose, Fit}
use Rattle.raid_base.specs.declared.messages.Reply.{Reply}
use Rattle.raid_base.specs.declared.messages.Errand.{Errand}
use Rattle.std.specs.Prelude.{sum_by}
use Rattle.std.specs.List.{AllByRecursion}
use Rattle.raid_base.specs.declared.jobs.RowPart.{RowPart}
use Rattle.raid_base.specs.declared.jobs.Ended.{Ended}
use Rattle.raid_base.specs.declared.jobs.Ended.TheVariants as ends
use Rattle.raid_base.specs.Steps.{Steps, Asks, Draws, Ends}
use Rattle.stripe_layout.specs.Placement.{units_in}
use Rattle.attempts.specs.Taking.{Access, Finish}
use Rattle.attempts.specs.Reading.{read_steps}
use Rattle.attempts.specs.Writing.{write_steps}
use Rattle.attempts.specs.declared.Repair.{Repair}
use Rattle.attempts.specs.declared.Rescue.{Rescue}
use Rattle.attempts.specs.Mending.{mend_steps}
use Rattle.attempts.specs.Recovery.{recover_steps}

-- a number that an attempt may carry
pub record IsNumber (n : Number) : Type 0 where
  pub least : 1 ≤ n.0
  pub most : n.0 < 2 ^ 62

abbrev pub IsNumberIfAny : Option Number → Type 0
IsNumberIfAny None = Unit {0}
IsNumberIfAny (Some n) = IsNumber n

abbrev pub IsDrawn : Result Number Spent → Type 0
IsDrawn (Ok n) = IsNumber n
IsDrawn (Err spent) = Unit {0}

-- the request is one that a bay of so many rows takes
abbrev pub IsAskable : ℕ → Request → Type 0
IsAskable rows (Share row id want) = (row.0 < rows) × IsNumber id
IsAskable rows (Claim row id how mask want) = (row.0 < rows) × IsNumber id
IsAskable rows (Confirm row id want) = (row.0 < rows) × IsNumber id
IsAskable rows (Put row id n cell) = (row.0 < rows) × IsNumber id × IsNumber n
IsAskable rows (Release row id n) = (row.0 < rows) × IsNumber id × IsNumberIfAny n
IsAskable rows Lose = Unit {0}
IsAskable rows Fit = Unit {0}

-- of an array of n bays
pub record IsWithin (n rows : ℕ) (errand : Errand) : Type 0 where
  pub bay : errand.bay.0 < n
  pub request : IsAskable rows errand.request

-- Whatever the replies and the numbers drawn: each errand is P, there are at most so many, and the answer is Q.
abbrev pub Obeys : {A : Type 0} → (Errand → Type 0) → (A → Type 0) → ℕ → Steps A → Type 0
Obeys P Q most (Ends a) = Q a
Obeys P Q most (Draws k) = (d : Result Number Spent) → IsDrawn d → Obeys P Q most (k d)
Obeys P Q zero (Asks e s c k) = ⊥
Obeys P Q (suc most) (Asks e s c k) = P e × ((r : Reply) → Obeys P Q most (k r))

-- how a read or a write may end
abbrev pub IsPlainEnd : Ended → Type 0
IsPlainEnd (ends.Read n) = Unit {0}
IsPlainEnd (ends.Wrote n) = Unit {0}
IsPlainEnd (ends.Part n made cause) = Unit {0}
IsPlainEnd (ends.Refused cause) = Unit {0}
IsPlainEnd (ends.Recovered n closed lost) = ⊥
IsPlainEnd ends.Mended = ⊥

pub record IsPlainFinish (most : ℕ) (finish : Finish) : Type 0 where
  pub ended : IsPlainEnd finish.ended
  pub contents : length finish.contents ≤ most

-- an access of an array with so many rows, whose parts have so many units together
pub record IsAccess (a : Access) (rows units : ℕ) : Type 0 where
  pub least : 3 ≤ a.n
  pub most : a.n ≤ 16
  pub id : IsNumber a.id
  pub within : AllByRecursion (λ (part : RowPart). part.row.0 < rows) a.parts
  pub covered : sum_by (λ (part : RowPart). length (units_in a.n part.mask)) a.parts ≤ units

-- Every read and every write keeps to this: it asks within the array, all bays together at most four times for each
-- slot of its rows, and a read gives no more contents than it has units.
abbrev pub ReadsObey : Type 0
ReadsObey = (a : Access) (rows count : ℕ) → IsAccess a rows count → Obeys (IsWithin a.n rows) (IsPlainFinish count) (4 * a.n * length a.parts) (read_steps a)

abbrev pub WritesObey : Type 0
WritesObey = (a : Access) (rows count : ℕ) → IsAccess a rows count → Obeys (IsWithin a.n rows) (IsPlainFinish 0) (4 * a.n * length a.parts) (write_steps a)

-- the slot of a row to rebuild, in an array with so many rows
pub record IsRepair (m : Repair) (rows : ℕ) : Type 0 where
  pub least : 3 ≤ m.n
  pub most : m.n ≤ 16
  pub id : IsNumber m.id
  pub row : m.row.0 < rows
  pub target : m.target.0 < m.n

-- the row to recover
pub record IsRescue (r : Rescue) (rows : ℕ) : Type 0 where
  pub least : 3 ≤ r.n
  pub most : r.n ≤ 16
  pub id : IsNumber r.id
  pub row : r.row.0 < rows

-- how a rebuild may end
abbrev pub IsMendEnd : Ended → Type 0
IsMendEnd (ends.Read n) = ⊥
IsMendEnd (ends.Wrote n) = ⊥
IsMendEnd (ends.Part n made cause) = ⊥
IsMendEnd (ends.Refused cause) = Unit {0}
IsMendEnd (ends.Recovered n closed lost) = ⊥
IsMendEnd ends.Mended = Unit {0}

pub record IsMendFinish (finish : Finish) : Type 0 where
  pub ended : IsMendEnd finish.ended
  pub contents : finish.contents ≡ []

-- how a recovery on n bays may end: closed, with a number, and a unit of the row lost or none
abbrev pub IsRecoveryEnd : ℕ → Ended → Type 0
IsRecoveryEnd n (ends.Read number) = ⊥
IsRecoveryEnd n (ends.Wrote number) = ⊥
IsRecoveryEnd n (ends.Part number made cause) = ⊥
IsRecoveryEnd n (ends.Refused cause) = Unit {0}
IsRecoveryEnd n (ends.Recovered number closed lost) = IsNumber number × (closed ≡ true) × IfSome lost (λ unit. unit < n - 1)
IsRecoveryEnd n ends.Mended = ⊥

pub record IsRecoveryFinish (n : ℕ) (finish : Finish) : Type 0 where
  pub ended : IsRecoveryEnd n finish.ended
  pub contents : finish.contents ≡ []

-- Every rebuild and every recovery of a row keeps to this: it asks within the array, all bays together at most four
-- times for each slot of the row, and gives no contents.
abbrev pub MendsObey : Type 0
MendsObey = (m : Repair) (rows : ℕ) → IsRepair m rows → Obeys (IsWithin m.n rows) IsMendFinish (4 * m.n) (mend_steps m)

abbrev pub RecoveriesObey : Type 0
RecoveriesObey = (r : Rescue) (rows : ℕ) → IsRescue r rows → Obeys (IsWithin r.n rows) (IsRecoveryFinish r.n) (4 * r.n) (recover_steps r)
