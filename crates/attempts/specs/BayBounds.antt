-- How often an attempt asks one bay alone, whatever the replies.
use Rattle.std.specs.Prelude.{ℕ, ◌-◌, ◌*◌, ◌≤◌, ◌==◌, if◌then◌else◌, length, Result}
use Rattle.raid_base.specs.declared.numbers.BayNo.{BayNo}
use Rattle.raid_base.specs.declared.numbers.Number.{Number}
use Rattle.raid_base.specs.declared.numbers.Spent.{Spent}
use Rattle.raid_base.specs.declared.messages.Reply.{Reply}
use Rattle.raid_base.specs.declared.messages.Errand.{Errand}
use Rattle.raid_base.specs.Steps.{Steps, Asks, Draws, Ends}
use Rattle.attempts.specs.declared.Repair.{Repair}
use Rattle.attempts.specs.declared.Rescue.{Rescue}
use Rattle.attempts.specs.Taking.{Access}
use Rattle.attempts.specs.Reading.{read_steps}
use Rattle.attempts.specs.Writing.{write_steps}
use Rattle.attempts.specs.Mending.{mend_steps}
use Rattle.attempts.specs.Recovery.{recover_steps}
use Rattle.attempts.specs.Discipline.{IsDrawn, IsAccess, IsRepair, IsRescue}

-- what an errand counts for a bay
abbrev pub count_at : BayNo → Errand → ℕ
count_at bay errand = if errand.bay.0 == bay.0 then 1 else 0

-- Whatever the replies and the numbers drawn: at most so many errands go to this bay.
abbrev pub ObeysAt : {A : Type 0} → BayNo → ℕ → Steps A → Type 0
ObeysAt bay most (Ends a) = Unit {0}
ObeysAt bay most (Draws k) = (d : Result Number Spent) → IsDrawn d → ObeysAt bay most (k d)
ObeysAt bay most (Asks e s c k) = (count_at bay e ≤ most) × ((r : Reply) → ObeysAt bay (most - count_at bay e) (k r))

-- Every read and every write asks each bay at most four times for each of its rows.
abbrev pub ReadsObeyAt : Type 0
ReadsObeyAt = (a : Access) (rows count : ℕ) → IsAccess a rows count → (bay : BayNo) → ObeysAt bay (4 * length a.parts) (read_steps a)

abbrev pub WritesObeyAt : Type 0
WritesObeyAt = (a : Access) (rows count : ℕ) → IsAccess a rows count → (bay : BayNo) → ObeysAt bay (4 * length a.parts) (write_steps a)

-- Every rebuild and every recovery of a row asks each bay at most four times.
abbrev pub MendsObeyAt : Type 0
MendsObeyAt = (m : Repair) (rows : ℕ) → IsRepair m rows → (bay : BayNo) → ObeysAt bay 4 (mend_steps m)

abbrev pub RecoveriesObeyAt : Type 0
RecoveriesObeyAt = (r : Rescue) (rows : ℕ) → IsRescue r rows → (bay : BayNo) → ObeysAt bay 4 (recover_steps r)
