-- In which order an attempt asks, whatever the replies: it takes its slots, in each row the parity first. It confirms
-- each row. It puts under its own notes alone, each slot once and the parity of a row last. Then it gives back.
use Rattle.std.specs.Prelude.{◌≡◌, ◌⊎◌, ℕ, ◌<◌, ◌≤◌, ◌==◌, ◌&&◌, Bool, true, false, List, [], ◌∷◌, length, Option, Some, None, Result, Ok, Err, if◌then◌else◌}
use Rattle.std.specs.List.{AllByRecursion, list_any}
use Rattle.raid_base.specs.declared.numbers.BayNo.{BayNo}
use Rattle.raid_base.specs.declared.numbers.RowNo.{RowNo}
use Rattle.raid_base.specs.declared.numbers.Number.{Number}
use Rattle.raid_base.specs.declared.numbers.Spent.{Spent}
use Rattle.raid_base.specs.declared.messages.Mode.{Mode}
use Rattle.raid_base.specs.declared.messages.Mode.TheVariants.{Lock, Order}
use Rattle.raid_base.specs.declared.messages.Request.{Request}
use Rattle.raid_base.specs.declared.messages.Request.TheVariants.{Share, Claim, Confirm, Put, Release, Lose, Fit}
use Rattle.raid_base.specs.declared.messages.Reply.{Reply}
use Rattle.raid_base.specs.declared.messages.Errand.{Errand}
use Rattle.raid_base.specs.declared.messages.Grant.{Grant}
use Rattle.raid_base.specs.declared.jobs.RowPart.{RowPart}
use Rattle.raid_base.specs.declared.jobs.Ended.{Ended}
use Rattle.raid_base.specs.declared.jobs.Ended.TheVariants as ends
use Rattle.raid_base.specs.Replies.{grant_of, is_held, is_missing}
use Rattle.raid_base.specs.Steps.{Steps, Asks, Draws, Ends}
use Rattle.stripe_layout.specs.Placement.{parity_bay}
use Rattle.attempts.specs.declared.Repair.{Repair}
use Rattle.attempts.specs.declared.Rescue.{Rescue}
use Rattle.attempts.specs.Taking.{Access, Finish}
use Rattle.attempts.specs.Reading.{read_steps}
use Rattle.attempts.specs.Writing.{write_steps}
use Rattle.attempts.specs.Mending.{mend_steps}
use Rattle.attempts.specs.Recovery.{recover_steps}

-- a row's slot on a bay
pub record Slot : Type 0 where
  pub bay : BayNo
  pub row : RowNo

abbrev pub parity_slot : ℕ → RowNo → Slot
parity_slot n row = record { bay = parity_bay n row; row = row }

-- the same slot
abbrev pub is_slot : Slot → Slot → Bool
is_slot x y = (x.bay.0 == y.bay.0) && (x.row.0 == y.row.0)

abbrev pub has_slot : Slot → List Slot → Bool
has_slot slot slots = list_any (is_slot slot) slots

-- it is one of these
abbrev pub IsIn : {X : Type 0} → X → List X → Type 0
IsIn x [] = ⊥
IsIn x (y ∷ ys) = (y ≡ x) ⊎ IsIn x ys

-- what an attempt has done so far: the phase that it is in, its number, the slots that it claimed, those that were
-- granted to its claims, the rows whose confirm was answered as is due, and the slots that it put
pub record Past : Type 0 where
  pub phase : ℕ
  pub number : Option Number
  pub claimed : List Slot
  pub granted : List Slot
  pub confirmed : List RowNo
  pub put : List Slot

-- nothing yet: under stamps the id is the number
abbrev pub begins : Option Number → Past
begins number = record { phase = 0; number = number; claimed = []; granted = []; confirmed = []; put = [] }

abbrev pub number_of : Mode → Number → Option Number
number_of Order id = Some id
number_of Lock id = None

-- a put: under a note that was granted, once, and before its row's parity; each row that was claimed is confirmed
pub record MayPut (n : ℕ) (past : Past) (slot : Slot) : Type 0 where
  pub granted : IsIn slot past.granted
  pub confirmed : AllByRecursion (λ (claim : Slot). IsIn claim.row past.confirmed) past.claimed
  pub once : IsIn slot past.put → ⊥
  pub parity_last : IsIn (parity_slot n slot.row) past.put → ⊥

-- the phases are 0 for shares and claims, 1 for confirms, 2 for puts and 3 for releases alone
abbrev pub MayAsk : ℕ → Number → Past → BayNo → Request → Type 0
MayAsk n id past bay (Share row by want) = (by ≡ id) × (past.phase ≤ 0)
MayAsk n id past bay (Claim row by how mask want) =
    (by ≡ id) × (past.phase ≤ 0) × ((bay ≡ parity_bay n row) ⊎ IsIn (parity_slot n row) past.claimed)
MayAsk n id past bay (Confirm row by want) = (by ≡ id) × (past.phase ≤ 1) × (bay ≡ parity_bay n row)
MayAsk n id past bay (Put row by number cell) =
    (by ≡ id) × (past.phase ≤ 2) × (past.number ≡ Some number) × MayPut n past (record { bay = bay; row = row })
MayAsk n id past bay (Release row by number) = by ≡ id
MayAsk n id past bay Lose = ⊥
MayAsk n id past bay Fit = ⊥

-- After a reply. A confirm is answered as is due: held where the parity was granted, and missing where it was not
abbrev pub is_due : Bool → Reply → Bool
is_due true reply = is_held reply
is_due false reply = is_missing reply

abbrev pub grants : Option Grant → Slot → List Slot → List Slot
grants None slot slots = slots
grants (Some grant) slot slots = slot ∷ slots

abbrev pub after_asking : Past → BayNo → Request → Reply → Past
after_asking past bay (Share row by want) reply = past
after_asking past bay (Claim row by how mask want) reply =
    record past { claimed = record { bay = bay; row = row } ∷ past.claimed; granted = grants (grant_of reply) (record { bay = bay; row = row }) past.granted }
after_asking past bay (Confirm row by want) reply =
    record past { phase = 1; confirmed = if is_due (has_slot (record { bay = bay; row = row }) past.granted) reply then row ∷ past.confirmed else past.confirmed }
after_asking past bay (Put row by number cell) reply = record past { phase = 2; put = record { bay = bay; row = row } ∷ past.put }
after_asking past bay (Release row by number) reply = record past { phase = 3 }
after_asking past bay Lose reply = past
after_asking past bay Fit reply = past

abbrev pub after : Past → Errand → Reply → Past
after past errand reply = after_asking past errand.bay errand.request reply

-- and after a number: no share, claim or confirm follows, and none but releases where it is spent
abbrev pub after_number : Past → Result Number Spent → Past
after_number past (Ok n) = record past { number = Some n; phase = 2 }
after_number past (Err spent) = record past { phase = 3 }

-- Whatever the replies and the numbers drawn: each request may be asked after what was before it, a number is drawn
-- before any put and only by an attempt that has none, and the end is Q of what was before.
abbrev pub Keeps : {A : Type 0} → ℕ → Number → (Past → A → Type 0) → Past → Steps A → Type 0
Keeps n id Q past (Ends a) = Q past a
Keeps n id Q past (Draws k) = (past.number ≡ None) × (past.phase ≤ 1) × ((d : Result Number Spent) → Keeps n id Q (after_number past d) (k d))
Keeps n id Q past (Asks e s c k) = MayAsk n id past e.bay e.request × ((r : Reply) → Keeps n id Q (after past e r) (k r))

-- How it ends. A read has claimed and put nothing
pub record HasOnlyRead (past : Past) (finish : Finish) : Type 0 where
  pub claimed : past.claimed ≡ []
  pub put : past.put ≡ []

-- a write that is refused has put nothing, and one that ends otherwise has its number
abbrev pub WriteEnds : Past → Ended → Type 0
WriteEnds past (ends.Read n) = ⊥
WriteEnds past (ends.Wrote n) = past.number ≡ Some n
WriteEnds past (ends.Part n made cause) = past.number ≡ Some n
WriteEnds past (ends.Refused cause) = past.put ≡ []
WriteEnds past (ends.Recovered n closed lost) = ⊥
WriteEnds past ends.Mended = ⊥

pub record HasWritten (past : Past) (finish : Finish) : Type 0 where
  pub ended : WriteEnds past finish.ended

-- a rebuild or a recovery has put one slot at most, and a recovery has its number
abbrev pub RepairEnds : Past → Ended → Type 0
RepairEnds past (ends.Read n) = ⊥
RepairEnds past (ends.Wrote n) = ⊥
RepairEnds past (ends.Part n made cause) = ⊥
RepairEnds past (ends.Refused cause) = Unit {0}
RepairEnds past (ends.Recovered n closed lost) = past.number ≡ Some n
RepairEnds past ends.Mended = Unit {0}

pub record HasRepaired (past : Past) (finish : Finish) : Type 0 where
  pub ended : RepairEnds past finish.ended
  pub put : length past.put ≤ 1

-- the rows of these parts differ
abbrev pub HasRow : RowNo → List RowPart → Type 0
HasRow row [] = ⊥
HasRow row (part ∷ parts) = (part.row ≡ row) ⊎ HasRow row parts

abbrev pub RowsDiffer : List RowPart → Type 0
RowsDiffer [] = Unit {0}
RowsDiffer (part ∷ parts) = (HasRow part.row parts → ⊥) × RowsDiffer parts

-- Every attempt keeps to this.
abbrev pub ReadsKeepPhases : Type 0
ReadsKeepPhases = (a : Access) → Keeps a.n a.id HasOnlyRead (begins (number_of a.mode a.id)) (read_steps a)

abbrev pub WritesKeepPhases : Type 0
WritesKeepPhases = (a : Access) → 3 ≤ a.n → RowsDiffer a.parts → Keeps a.n a.id HasWritten (begins (number_of a.mode a.id)) (write_steps a)

abbrev pub MendsKeepPhases : Type 0
MendsKeepPhases = (m : Repair) → 3 ≤ m.n → m.target.0 < m.n → Keeps m.n m.id HasRepaired (begins None) (mend_steps m)

abbrev pub RecoveriesKeepPhases : Type 0
RecoveriesKeepPhases = (r : Rescue) → Keeps r.n r.id HasRepaired (begins None) (recover_steps r)
