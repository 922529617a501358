-- What an attempt holds, and that it has given it back when it is refused.
use Rattle.std.specs.Prelude.{◌≡◌, ◌⊎◌, ◌≤◌, not, Bool, true, false, if◌then◌else◌, List, [], ◌∷◌, filter, map, Option, Some, None, is_some, Result}
use Rattle.std.specs.List.{AllByRecursion}
use Rattle.raid_base.specs.declared.numbers.BayNo.{BayNo}
use Rattle.raid_base.specs.declared.numbers.Number.{Number}
use Rattle.raid_base.specs.declared.numbers.Spent.{Spent}
use Rattle.raid_base.specs.declared.messages.Mode.{Mode}
use Rattle.raid_base.specs.declared.messages.Mode.TheVariants.{Lock, Order}
use Rattle.raid_base.specs.declared.messages.Request.{Request}
use Rattle.raid_base.specs.declared.messages.Request.TheVariants.{Share, Claim, Confirm, Put, Release, Lose, Fit}
use Rattle.raid_base.specs.declared.messages.Reply.{Reply}
use Rattle.raid_base.specs.declared.messages.Grant.{Grant}
use Rattle.raid_base.specs.declared.messages.PutEnd.{PutEnd}
use Rattle.raid_base.specs.declared.messages.PutEnd.TheVariants.{Made, Unnoted, Failed}
use Rattle.raid_base.specs.declared.jobs.Ended.{Ended}
use Rattle.raid_base.specs.declared.jobs.Ended.TheVariants as ends
use Rattle.raid_base.specs.Fits.{fits}
use Rattle.raid_base.specs.Replies.{grant_of, put_end}
use Rattle.raid_base.specs.Steps.{Steps, Asks, Draws, Ends}
use Rattle.virtual_objects.specs.RowParts.{AreRowParts}
use Rattle.attempts.specs.declared.Repair.{Repair}
use Rattle.attempts.specs.declared.Rescue.{Rescue}
use Rattle.attempts.specs.Taking.{Access, Finish}
use Rattle.attempts.specs.Reading.{read_steps}
use Rattle.attempts.specs.Writing.{write_steps}
use Rattle.attempts.specs.Mending.{mend_steps}
use Rattle.attempts.specs.Recovery.{recover_steps}
use Rattle.attempts.specs.Phases.{Slot, is_slot}

-- a slot that is held, whether by a seizure, and whether a put to it failed
pub record Holding : Type 0 where
  pub slot : Slot
  pub seized : Bool
  pub failed : Bool

abbrev pub without_slot : Slot → List Holding → List Holding
without_slot slot held = filter (λ h. not (is_slot h.slot slot)) held

-- a claim that was granted holds its slot
abbrev pub claimed : Slot → Option Grant → List Holding → List Holding
claimed slot None held = held
claimed slot (Some grant) held = record { slot = slot; seized = is_some grant.seized; failed = false } ∷ held

-- and so does a share under locks
abbrev pub shared : Mode → Slot → Option Grant → List Holding → List Holding
shared Order slot grant held = held
shared Lock slot grant held = claimed slot grant held

abbrev pub mark_failed : Slot → Holding → Holding
mark_failed slot h = if is_slot h.slot slot then record h { failed = true } else h

-- a put that was done gives its slot back, and one that found no note has nothing there any more
abbrev pub after_put : Slot → PutEnd → List Holding → List Holding
after_put slot Made held = without_slot slot held
after_put slot (Unnoted life) held = without_slot slot held
after_put slot Failed held = map (mark_failed slot) held

abbrev pub held_after : Mode → List Holding → BayNo → Request → Reply → List Holding
held_after mode held bay (Share row id want) reply = shared mode (record { bay = bay; row = row }) (grant_of reply) held
held_after mode held bay (Claim row id how mask want) reply = claimed (record { bay = bay; row = row }) (grant_of reply) held
held_after mode held bay (Confirm row id want) reply = held
held_after mode held bay (Put row id number cell) reply = after_put (record { bay = bay; row = row }) (put_end reply) held
held_after mode held bay (Release row id number) reply = without_slot (record { bay = bay; row = row }) held
held_after mode held bay Lose reply = held
held_after mode held bay Fit reply = held

-- Whatever the replies and the numbers drawn: the end is Q of what is held then.
abbrev pub Returns : {A : Type 0} → Mode → (List Holding → A → Type 0) → List Holding → Steps A → Type 0
Returns mode Q held (Ends a) = Q held a
Returns mode Q held (Draws k) = (d : Result Number Spent) → Returns mode Q held (k d)
Returns mode Q held (Asks e s c k) = (r : Reply) → Returns mode Q (held_after mode held e.bay e.request r) (k r)

-- the same for all replies that fit the requests
abbrev pub FittingReturns : {A : Type 0} → Mode → (List Holding → A → Type 0) → List Holding → Steps A → Type 0
FittingReturns mode Q held (Ends a) = Q held a
FittingReturns mode Q held (Draws k) = (d : Result Number Spent) → FittingReturns mode Q held (k d)
FittingReturns mode Q held (Asks e s c k) = (r : Reply) → fits e.request r ≡ true → FittingReturns mode Q (held_after mode held e.bay e.request r) (k r)

-- A read holds nothing any more, however it ended
abbrev pub HoldsNothing : List Holding → Finish → Type 0
HoldsNothing held finish = held ≡ []

-- a write that is refused holds nothing
abbrev pub WriteHolds : List Holding → Ended → Type 0
WriteHolds held (ends.Read n) = ⊥
WriteHolds held (ends.Wrote n) = Unit {0}
WriteHolds held (ends.Part n made cause) = Unit {0}
WriteHolds held (ends.Refused cause) = held ≡ []
WriteHolds held (ends.Recovered n closed lost) = ⊥
WriteHolds held ends.Mended = ⊥

abbrev pub HasLetGo : List Holding → Finish → Type 0
HasLetGo held finish = WriteHolds held finish.ended

-- nor does one that is done
abbrev pub WrittenHolds : List Holding → Ended → Type 0
WrittenHolds held (ends.Read n) = ⊥
WrittenHolds held (ends.Wrote n) = held ≡ []
WrittenHolds held (ends.Part n made cause) = Unit {0}
WrittenHolds held (ends.Refused cause) = held ≡ []
WrittenHolds held (ends.Recovered n closed lost) = ⊥
WrittenHolds held ends.Mended = ⊥

abbrev pub HasLetGoAll : List Holding → Finish → Type 0
HasLetGoAll held finish = WrittenHolds held finish.ended

-- a recovery that is refused holds what it seized, and a parity to which its put failed
abbrev pub RecoveryHolds : List Holding → Ended → Type 0
RecoveryHolds held (ends.Read n) = ⊥
RecoveryHolds held (ends.Wrote n) = ⊥
RecoveryHolds held (ends.Part n made cause) = ⊥
RecoveryHolds held (ends.Refused cause) = AllByRecursion (λ h. (h.seized ≡ true) ⊎ (h.failed ≡ true)) held
RecoveryHolds held (ends.Recovered n closed lost) = held ≡ []
RecoveryHolds held ends.Mended = ⊥

abbrev pub HasRecovered : List Holding → Finish → Type 0
HasRecovered held finish = RecoveryHolds held finish.ended

-- Every attempt keeps to this.
abbrev pub ReadsReturn : Type 0
ReadsReturn = (a : Access) → Returns a.mode HoldsNothing [] (read_steps a)

abbrev pub WritesReturn : Type 0
WritesReturn = (a : Access) → Returns a.mode HasLetGo [] (write_steps a)

-- and every write of the parts of a job, once it is done
abbrev pub WrittenWritesReturn : Type 0
WrittenWritesReturn = (a : Access) → 3 ≤ a.n → AreRowParts a.n a.parts → FittingReturns a.mode HasLetGoAll [] (write_steps a)

abbrev pub MendsReturn : Type 0
MendsReturn = (m : Repair) (mode : Mode) → Returns mode HoldsNothing [] (mend_steps m)

abbrev pub RecoveriesReturn : Type 0
RecoveriesReturn = (r : Rescue) (mode : Mode) → Returns mode HasRecovered [] (recover_steps r)
