-- What an attempt has committed by its end.
use Rattle.std.specs.Prelude.{◌≡◌, ◌↔◌, ℕ, ◌+◌, ◌<◌, ◌≤◌, if◌then◌else◌, true, List, [], ◌++◌, Result}
use Rattle.std.specs.List.{AllByRecursion}
use Rattle.raid_base.specs.declared.numbers.Number.{Number}
use Rattle.raid_base.specs.declared.numbers.Spent.{Spent}
use Rattle.raid_base.specs.declared.cells.Content.TheVariants.{Bytes}
use Rattle.raid_base.specs.declared.messages.Reply.{Reply}
use Rattle.raid_base.specs.declared.jobs.Ended.{Ended}
use Rattle.raid_base.specs.declared.jobs.Ended.TheVariants as ends
use Rattle.raid_base.specs.declared.jobs.RowPart.{RowPart}
use Rattle.raid_base.specs.Cells.{has_unit}
use Rattle.raid_base.specs.Fits.{fits}
use Rattle.raid_base.specs.Replies.{is_done}
use Rattle.raid_base.specs.Steps.{Commit, Steps, Asks, Draws, Ends}
use Rattle.virtual_objects.specs.RowParts.{AreRowParts}
use Rattle.attempts.specs.declared.Repair.{Repair}
use Rattle.attempts.specs.declared.Rescue.{Rescue}
use Rattle.attempts.specs.Taking.{Access, Finish}
use Rattle.attempts.specs.Reading.{read_steps}
use Rattle.attempts.specs.Puts.{block_no, block_at}
use Rattle.attempts.specs.Writing.{write_steps}
use Rattle.attempts.specs.Mending.{mend_steps}
use Rattle.attempts.specs.Recovery.{lost_commits, recover_steps}
use Rattle.attempts.specs.Phases.{IsIn}

-- what is committed once this reply has come
abbrev pub done_after : Reply → List Commit → List Commit → List Commit
done_after reply commits done = if is_done reply then done ++ commits else done

-- Whatever the replies that fit, and the numbers drawn: at the end, and where the host stops before it, what was committed is Q of how it ends.
abbrev pub Effecting : (List Commit → Ended → Type 0) → List Commit → Steps Finish → Type 0
Effecting Q done (Ends f) = Q done f.ended
Effecting Q done (Draws k) = (d : Result Number Spent) → Effecting Q done (k d)
Effecting Q done (Asks e stop commits k) =
    Q done stop × ((r : Reply) → fits e.request r ≡ true → Effecting Q (done_after r commits done) (k r))

-- the block of a unit that a part wants, with its content
abbrev pub commit_in : Access → RowPart → ℕ → Commit
commit_in a part unit = record { row = part.row; unit = unit; content = Bytes (block_at a part unit) }

-- it is one of these parts' commits
abbrev pub IsOfParts : Access → Commit → Type 0
IsOfParts a commit = (part : RowPart) × (unit : ℕ) × IsIn part a.parts × (unit + 1 < a.n) × (has_unit part.mask unit ≡ true) × (commit ≡ commit_in a part unit)

-- A write has committed just the blocks that it tells as made: all where it is done, and none where it was refused.
abbrev pub WriteTells : Access → List Commit → Ended → Type 0
WriteTells a done (ends.Wrote n) = (part : RowPart) (unit : ℕ) → IsIn part a.parts → unit + 1 < a.n → has_unit part.mask unit ≡ true → IsIn (commit_in a part unit) done
WriteTells a done (ends.Part n made cause) =
    (part : RowPart) (unit : ℕ) → IsIn part a.parts → unit + 1 < a.n → has_unit part.mask unit ≡ true →
    (has_unit made (block_no a part unit) ≡ true) ↔ IsIn (commit_in a part unit) done
WriteTells a done (ends.Refused cause) = done ≡ []
WriteTells a done _ = ⊥

pub record HasWrittenSo (a : Access) (done : List Commit) (ended : Ended) : Type 0 where
  pub tells : WriteTells a done ended
  pub only : AllByRecursion (IsOfParts a) done

-- A recovery has committed what it names lost, and no other attempt anything.
abbrev pub RecoveryTells : Rescue → List Commit → Ended → Type 0
RecoveryTells r done (ends.Recovered n closed lost) = done ≡ lost_commits r lost
RecoveryTells r done (ends.Refused cause) = done ≡ []
RecoveryTells r done _ = ⊥

abbrev pub CommitsNothing : List Commit → Ended → Type 0
CommitsNothing done _ = done ≡ []

abbrev pub AttemptsTellCommits : Type 0
AttemptsTellCommits =
    ((a : Access) → 3 ≤ a.n → AreRowParts a.n a.parts → Effecting (HasWrittenSo a) [] (write_steps a))
    × ((r : Rescue) → 3 ≤ r.n → Effecting (RecoveryTells r) [] (recover_steps r))
    × ((a : Access) → Effecting CommitsNothing [] (read_steps a))
    × ((m : Repair) → Effecting CommitsNothing [] (mend_steps m))
