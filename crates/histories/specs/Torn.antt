-- When a unit of a row is named lost.
use Rattle.std.specs.Prelude.{◌≡◌, ◌≢◌, ◌⊎◌, ◌↔◌, ℕ, ◌+◌, ◌<◌, Bool, true, List, Option, Some}
use Rattle.raid_base.specs.declared.numbers.RowNo.{RowNo}
use Rattle.raid_base.specs.declared.numbers.Number.{Number}
use Rattle.raid_base.specs.declared.messages.Note.{Note}
use Rattle.raid_base.specs.declared.messages.How.TheVariants.{Plain}
use Rattle.raid_base.specs.declared.messages.Request.TheVariants.{Claim}
use Rattle.raid_base.specs.declared.messages.Reply.TheVariants.{Missing}
use Rattle.raid_base.specs.declared.jobs.Task.{Task}
use Rattle.raid_base.specs.declared.jobs.Task.TheVariants as tasks
use Rattle.raid_base.specs.declared.jobs.JobEnd.{JobEnd}
use Rattle.raid_base.specs.declared.jobs.JobEnd.TheVariants as ends
use Rattle.raid_base.specs.declared.messages.Call.{Call}
use Rattle.raid_base.specs.Cells.{has_unit}
use Rattle.raid_base.specs.declared.messages.Grant.{Grant}
use Rattle.raid_base.specs.Replies.{grant_of}
use Rattle.stripe_layout.specs.Placement.{parity_bay, bay_of}
use Rattle.script_text.specs.Script.{Script}
use Rattle.histories.specs.Progress.{Ending}
use Rattle.histories.specs.Calls.{Happened, IsClaim, IsPut, IsDone}

-- the claim was granted, and seized this note
abbrev pub Seizes : Note → Call → Type 0
Seizes note call = (grant : Grant) × (grant_of call.answer.reply ≡ Some grant) × (grant.seized ≡ Some note)

-- the claim was granted, and shows that the slot was put by this id last
abbrev pub ShowsLast : Number → Call → Type 0
ShowsLast id call = (grant : Grant) × (grant_of call.answer.reply ≡ Some grant) × (grant.last ≡ id)

abbrev pub IsMissing : Call → Type 0
IsMissing call = (floor : Number) × (call.answer.reply ≡ Missing floor)

-- The calls of a recovery found its row torn, with this unit missing: the parity's note had units, and the unit is one of
-- them, or a present one of them was put by the note's origin.
pub record FoundTorn (n : ℕ) (row : RowNo) (calls : List Call) (unit : ℕ) (note : Note) : Type 0 where
  pub noted : Happened (λ call. IsClaim (parity_bay n row) row call × Seizes note call) calls
  pub mask : note.mask ≢ 0
  pub missing : Happened (λ call. IsClaim (bay_of n row unit) row call × IsMissing call) calls
  pub reached : (has_unit note.mask unit ≡ true)
      ⊎ ((other : ℕ) × (other + 1 < n) × (has_unit note.mask other ≡ true) × Happened (λ call. IsClaim (bay_of n row other) row call × ShowsLast note.origin call) calls)

-- a write claimed this parity with this id and this mask
abbrev pub IsWriteClaim : ℕ → RowNo → Number → ℕ → Call → Type 0
IsWriteClaim n row id mask call =
    (call.bay ≡ parity_bay n row) × (want : Bool) × (call.ask.what ≡ Claim row id Plain mask want) × (grant : Grant) × (grant_of call.answer.reply ≡ Some grant)

-- The note's origin is a write that did not come to its parity, and had the unit among its blocks or had put another of the row.
pub record IsOfWrite (n : ℕ) (row : RowNo) (history : List Call) (unit : ℕ) (note : Note) : Type 0 where
  pub claimed : Happened (IsWriteClaim n row note.origin note.mask) history
  pub unfinished : ¬ (Happened (λ call. IsPut (parity_bay n row) row note.origin call × IsDone call) history)
  pub torn : (has_unit note.mask unit ≡ true)
      ⊎ ((other : ℕ) × (other + 1 < n) × (other ≢ unit) × Happened (λ call. IsPut (bay_of n row other) row note.origin call × IsDone call) history)

-- a recovery names a unit of the row lost exactly where it found its row torn with that unit missing
pub record NamesLost (script : Script) (history : List Call) (row : RowNo) (e : Ending) (lost : Option ℕ) : Type 0 where
  pub named : (unit : ℕ) → lost ≡ Some unit → unit + 1 < script.n
  pub torn : (unit : ℕ) → unit < script.n → (lost ≡ Some unit) ↔ ((note : Note) × FoundTorn script.n row e.calls unit note)
  pub write : (unit : ℕ) (note : Note) → lost ≡ Some unit → FoundTorn script.n row e.calls unit note → IsOfWrite script.n row history unit note

abbrev pub IsLostRightly : Script → List Call → Ending → Task → JobEnd → Type 0
IsLostRightly script history e (tasks.Recover row) (ends.Recovered n closed lost) = NamesLost script history row e lost
IsLostRightly script history e _ _ = Unit {0}
