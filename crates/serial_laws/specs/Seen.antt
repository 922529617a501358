-- What reads see: of each unit the content that has the greatest number below their own.
use Rattle.std.specs.Prelude.{◌≡◌, ◌⊎◌, ℕ, ◌+◌, ◌<◌, ◌≤◌, nat_lt, if◌then◌else◌, List, [], ◌∷◌, ◌++◌, flat_map, Some, IsSome, Ok}
use Rattle.std.specs.List.{AllByRecursion}
use Rattle.raid_base.specs.declared.numbers.RowNo.{RowNo}
use Rattle.raid_base.specs.declared.numbers.Number.{Number}
use Rattle.raid_base.specs.declared.cells.Content.{Content}
use Rattle.raid_base.specs.declared.cells.Content.TheVariants.{Bytes}
use Rattle.raid_base.specs.declared.messages.Note.{Note}
use Rattle.raid_base.specs.declared.messages.Call.{Call}
use Rattle.raid_base.specs.declared.jobs.RowPart.{RowPart}
use Rattle.raid_base.specs.declared.jobs.Task.{Task}
use Rattle.raid_base.specs.declared.jobs.Task.TheVariants as tasks
use Rattle.raid_base.specs.declared.jobs.JobEnd.{JobEnd}
use Rattle.raid_base.specs.declared.jobs.JobEnd.TheVariants as ends
use Rattle.raid_base.specs.Cells.{zeros}
use Rattle.stripe_layout.specs.Placement.{parity_bay, bay_of}
use Rattle.raid_xor.specs.Parities.{parity_of}
use Rattle.attempts.specs.Sound.{Cells, IsThis, cell_on, part_contents}
use Rattle.script_text.specs.Script.{Script, parts_of}
use Rattle.script_text.specs.Ranges.{IsScript}
use Rattle.histories.specs.Calls.{row_of, read_of}
use Rattle.histories.specs.History.{IsHistory}
use Rattle.histories.specs.RowStates.{slot_at, cell_at}
use Rattle.histories.specs.Results.{EachEnding}
use Rattle.histories.specs.Accesses.{writes, reads, AllBelow}
use Rattle.serial_laws.specs.Contents.{is_parity_put, cells_with}
use Rattle.serial_laws.specs.Rising.{Taken, taken_at}

-- the newest content with a number below this, and all zeros where there is none
abbrev pub newest_below : ℕ → List Taken → Content
newest_below n [] = Bytes zeros
newest_below n (t ∷ ts) = if nat_lt t.number.0 n then t.content else newest_below n ts

abbrev pub content_below : Script → List Call → Number → RowNo → ℕ → Content
content_below script history n row unit = newest_below n.0 (taken_at script history row unit)

-- the cells of all rows that have these contents
abbrev pub cells_below : Script → List Call → Number → Cells
cells_below script history n = record {
  parity = λ row. parity_of (cells_with script.n (content_below script history n row));
  units = λ row. cells_with script.n (content_below script history n row);
}

-- Contents come late: one that a unit takes has a number above those of all reads of the unit's slot, and of its row's parity.
pub record IsLate (script : Script) (earlier : List Call) (row : RowNo) (unit : ℕ) (n : Number) : Type 0 where
  pub unit_reads : AllBelow n (reads script (bay_of script.n row unit) row earlier)
  pub parity_reads : AllBelow n (reads script (parity_bay script.n row) row earlier)

abbrev pub ContentsAreLate : Type 0
ContentsAreLate = (script : Script) (earlier : List Call) (call : Call) → IsScript script → IsHistory script (call ∷ earlier) → (row : RowNo) (unit : ℕ) →
    row.0 < script.rows → unit + 1 < script.n → (t : Taken) → taken_at script (call ∷ earlier) row unit ≡ t ∷ taken_at script earlier row unit →
    IsLate script earlier row unit t.number

-- what a unit had taken when the parity of its row was put last
abbrev pub counted_at : Script → List Call → RowNo → ℕ → List Taken
counted_at script [] row unit = []
counted_at script (call ∷ earlier) row unit =
    if is_parity_put script.n row call then taken_at script (call ∷ earlier) row unit else counted_at script earlier row unit

-- What a unit has taken since then has numbers that are not below the origin of the parity's note, and without a note there is
-- nothing such; what it had taken has numbers below each that is above all writes of the parity.
pub record IsCounted (script : Script) (history : List Call) (row : RowNo) (unit : ℕ) : Type 0 where
  pub newer : List Taken
  pub split : taken_at script history row unit ≡ newer ++ counted_at script history row unit
  pub noted : (newer ≡ []) ⊎ ((note : Note) × ((slot_at script history (parity_bay script.n row) row).note ≡ Some note)
      × AllByRecursion (λ (t : Taken). note.origin.0 ≤ t.number.0) newer)
  pub counted : (m : Number) → AllBelow m (writes (parity_bay script.n row) row history) →
      AllByRecursion (λ (t : Taken). t.number.0 < m.0) (counted_at script history row unit)

abbrev pub ParitiesCount : Type 0
ParitiesCount = (script : Script) (history : List Call) → IsScript script → IsHistory script history → (row : RowNo) (unit : ℕ) →
    row.0 < script.rows → unit + 1 < script.n → IsSome (cell_at script history row (parity_bay script.n row)) → IsCounted script history row unit

-- Each read of a slot finds the cell that the contents below its number give, now and later.
abbrev pub ReadsSeeBelow : Type 0
ReadsSeeBelow = (script : Script) (later earlier : List Call) (call : Call) (row : RowNo) (n : Number) → IsScript script → IsHistory script (later ++ call ∷ earlier) →
    row.0 < script.rows → call.bay.0 < script.n → row_of call.ask.what ≡ Some row → read_of script.mode call.ask.what call.answer.reply ≡ Some n →
    IsThis (cell_on script.n (cells_below script (later ++ call ∷ earlier) n) call.bay row) (cell_at script earlier row call.bay)

-- A read that is done tells of its units the contents below its number.
abbrev pub TellsBelow : Script → List Call → Task → JobEnd → List Content → Type 0
TellsBelow script history (tasks.Read object first count) (ends.Read n) contents =
    (parts : List RowPart) → parts_of script object first count ≡ Ok parts → contents ≡ flat_map (part_contents script.n (cells_below script history n)) parts
TellsBelow script history _ _ contents = Unit {0}

abbrev pub ReadsTellBelow : Type 0
ReadsTellBelow = (script : Script) (history : List Call) → IsScript script → IsHistory script history →
    EachEnding script history (λ host e. TellsBelow script history e.job.task e.ended e.contents)
