-- How an attempt may end, whatever the replies, and what it gives.
use Rattle.std.specs.Prelude.{◌≡◌, ℕ, List, [], length, sum_by, Result}
use Rattle.raid_base.specs.declared.numbers.Number.{Number}
use Rattle.raid_base.specs.declared.numbers.Spent.{Spent}
use Rattle.raid_base.specs.declared.cells.Content.{Content}
use Rattle.raid_base.specs.declared.messages.Reply.{Reply}
use Rattle.raid_base.specs.declared.jobs.RowPart.{RowPart}
use Rattle.raid_base.specs.declared.jobs.Ended.{Ended}
use Rattle.raid_base.specs.declared.jobs.Ended.TheVariants as ends
use Rattle.raid_base.specs.Steps.{Steps, Asks, Draws, Ends}
use Rattle.stripe_layout.specs.Placement.{units_in}
use Rattle.attempts.specs.declared.Repair.{Repair}
use Rattle.attempts.specs.declared.Rescue.{Rescue}
use Rattle.attempts.specs.Taking.{Access, Finish}
use Rattle.attempts.specs.Reading.{read_steps}
use Rattle.attempts.specs.Writing.{write_steps}
use Rattle.attempts.specs.Mending.{mend_steps}
use Rattle.attempts.specs.Recovery.{recover_steps}

-- no read has come to its end
abbrev pub IsNoRead : Ended → Type 0
IsNoRead (ends.Read n) = ⊥
IsNoRead (ends.Wrote n) = Unit {0}
IsNoRead (ends.Part n made cause) = Unit {0}
IsNoRead (ends.Refused cause) = Unit {0}
IsNoRead (ends.Recovered n closed lost) = Unit {0}
IsNoRead ends.Mended = Unit {0}

-- Whatever the replies and the numbers drawn: the end is Q, and where the host stops before it no read is done.
abbrev pub Finishes : {A : Type 0} → (A → Type 0) → Steps A → Type 0
Finishes Q (Ends a) = Q a
Finishes Q (Draws k) = (d : Result Number Spent) → Finishes Q (k d)
Finishes Q (Asks e s c k) = IsNoRead s × ((r : Reply) → Finishes Q (k r))

-- how many units these parts have
abbrev pub unit_count : ℕ → List RowPart → ℕ
unit_count n parts = sum_by (λ (part : RowPart). length (units_in n part.mask)) parts

-- a read is done, with so many contents, or refused
abbrev pub IsReadEnd : ℕ → List Content → Ended → Type 0
IsReadEnd count read (ends.Read n) = length read ≡ count
IsReadEnd count read (ends.Wrote n) = ⊥
IsReadEnd count read (ends.Part n made cause) = ⊥
IsReadEnd count read (ends.Refused cause) = read ≡ []
IsReadEnd count read (ends.Recovered n closed lost) = ⊥
IsReadEnd count read ends.Mended = ⊥

-- no other attempt reads or gives contents
pub record GivesNone (f : Finish) : Type 0 where
  pub ended : IsNoRead f.ended
  pub contents : f.contents ≡ []

-- A read that is done gives a content for each of its units, and a refused one none.
abbrev pub ReadsFinish : Type 0
ReadsFinish = (a : Access) → Finishes (λ (f : Finish). IsReadEnd (unit_count a.n a.parts) f.contents f.ended) (read_steps a)

-- Writes, rebuilds and recoveries give none.
abbrev pub OthersFinish : Type 0
OthersFinish = ((a : Access) → Finishes GivesNone (write_steps a)) × ((m : Repair) → Finishes GivesNone (mend_steps m)) × ((r : Rescue) → Finishes GivesNone (recover_steps r))
