-- How many cells a write is granted in a row.
use Rattle.std.specs.Prelude.{◌≡◌, ℕ, ◌+◌, ◌-◌, ◌≤◌, ◌&&◌, not, Bool, true, false, Some, Result}
use Rattle.raid_base.specs.declared.numbers.Number.{Number}
use Rattle.raid_base.specs.declared.numbers.RowNo.{RowNo}
use Rattle.raid_base.specs.declared.numbers.Spent.{Spent}
use Rattle.raid_base.specs.declared.messages.Reply.{Reply}
use Rattle.raid_base.specs.declared.messages.Reply.TheVariants.{Granted}
use Rattle.raid_base.specs.declared.jobs.Ended.{Ended}
use Rattle.raid_base.specs.declared.jobs.Ended.TheVariants as ends
use Rattle.raid_base.specs.declared.jobs.RowPart.{RowPart}
use Rattle.raid_base.specs.Fits.{fits}
use Rattle.raid_base.specs.Replies.{is_missing}
use Rattle.raid_base.specs.Steps.{Steps, Asks, Draws, Ends}
use Rattle.virtual_objects.specs.RowParts.{AreRowParts}
use Rattle.row_plans.specs.Plans.{choose}
use Rattle.row_plans.specs.Laws.{reads}
use Rattle.attempts.specs.Taking.{Access, Finish}
use Rattle.attempts.specs.Writing.{write_steps}
use Rattle.attempts.specs.Phases.{IsIn}
use Rattle.histories.specs.Calls.{row_of, is_row}

-- the cells that a reply grants: one or none
abbrev pub cells_granted : Reply → ℕ
cells_granted (Granted (Some cell) read_no write_no last life seized) = 1
cells_granted _ = 0

-- the cells of a row that were granted, after a further reply, which may be of the row
abbrev pub cells_after : Bool → Reply → ℕ → ℕ
cells_after true reply count = count + cells_granted reply
cells_after false reply count = count

-- whether the row is whole still: no reply of it said that its slot is missing
abbrev pub whole_after : Bool → Reply → Bool → Bool
whole_after of_row reply whole = whole && not (of_row && is_missing reply)

-- a write that is refused was granted at most so many cells, and any other just so many
abbrev pub IsSoMany : ℕ → ℕ → Ended → Type 0
IsSoMany most count (ends.Refused cause) = count ≤ most
IsSoMany most count _ = count ≡ most

-- Whatever the replies that fit, and the numbers drawn: at its end, and where its host stops, it was granted
-- so many cells of the row, if that is whole.
abbrev pub GrantsSo : ℕ → RowNo → Bool → ℕ → Steps Finish → Type 0
GrantsSo most row whole count (Ends f) = whole ≡ true → IsSoMany most count f.ended
GrantsSo most row whole count (Draws k) = (d : Result Number Spent) → GrantsSo most row whole count (k d)
GrantsSo most row whole count (Asks e stop commits k) =
    (whole ≡ true → IsSoMany most count stop)
    × ((reply : Reply) → fits e.request reply ≡ true →
    let of_row : Bool = is_row row (row_of e.request) in
    GrantsSo most row (whole_after of_row reply whole) (cells_after of_row reply count) (k reply))

-- In each row of its job that is whole, a write is granted as many cells as the plan for it reads.
abbrev pub WritesReadLittle : Type 0
WritesReadLittle = (a : Access) → AreRowParts a.n a.parts → (part : RowPart) → IsIn part a.parts →
    let d : ℕ = a.n - 1 in GrantsSo (reads (choose d part.count) d part.count) part.row true 0 (write_steps a)
