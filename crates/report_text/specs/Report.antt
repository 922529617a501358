-- The text of a report.
use Rattle.std.specs.Prelude.{ℕ, ◌+◌, Bool, true, false, List, [], ◌∷◌, ◌++◌, map, length, Option, Some, None, codes, decimal, if◌then◌else◌}
use Rattle.std.specs.List.{flat_map, range_with_len}
use Rattle.raid_base.specs.declared.cells.Content.{Content}
use Rattle.raid_base.specs.declared.cells.Content.TheVariants as contents
use Rattle.raid_base.specs.declared.cells.Shown.{Shown}
use Rattle.raid_base.specs.declared.cells.Shown.TheVariants.{Seen, Hidden}
use Rattle.raid_base.specs.declared.messages.Turn.{Turn}
use Rattle.raid_base.specs.declared.messages.Note.{Note}
use Rattle.raid_base.specs.declared.jobs.Cause.{Cause}
use Rattle.raid_base.specs.declared.jobs.Cause.TheVariants as causes
use Rattle.raid_base.specs.declared.jobs.JobEnd.{JobEnd}
use Rattle.raid_base.specs.declared.jobs.JobEnd.TheVariants as ends
use Rattle.raid_base.specs.declared.jobs.JobResult.{JobResult}
use Rattle.raid_base.specs.Cells.{has_unit}
use Rattle.virtual_objects.specs.Objects.{Address}
use Rattle.text_lines.specs.Blocks.{block_text}
use Rattle.text_lines.specs.Lines.{line}

-- What a report says: how each job ended, the contents of each that is a read, the number of blocks of each that was done in part,
-- the turns, what is shown of each block, and which rows are closed
pub record ReportOf : Type 0 where
  pub results : List JobResult
  pub contents : List (List Content)
  pub flags : List ℕ
  pub turns : List Turn
  pub blocks : List (Address × Shown)
  pub closed : List Bool

-- a block of a list, with what is shown of it
abbrev pub listed : List ℕ × ℕ × Shown → Address × Shown
listed entry = (record { object = entry.0; block = entry.1 }, entry.2)

-- a content: its block, or that it is lost
abbrev pub content_text : Content → List ℕ
content_text (contents.Bytes bytes) = block_text bytes
content_text contents.Lost = codes "lost"

abbrev pub shown_text : Shown → List ℕ
shown_text (Seen content) = content_text content
shown_text Hidden = codes "hidden"

-- the holder of a note: its host and its id
abbrev pub holder_words : Note → List (List ℕ)
holder_words note = decimal note.host.0 ∷ decimal note.id.0 ∷ []

abbrev pub cause_words : Cause → List (List ℕ)
cause_words (causes.Busy holder) = codes "busy" ∷ holder_words holder
cause_words (causes.Late above) = codes "late" ∷ decimal above.0 ∷ []
cause_words (causes.Young note) = codes "young" ∷ holder_words note
cause_words (causes.Behind floor) = codes "behind" ∷ decimal floor.0 ∷ []
cause_words (causes.Fault bay) = codes "fault" ∷ decimal bay.0 ∷ []
cause_words (causes.Broken first second) = codes "broken" ∷ decimal first.0 ∷ decimal second.0 ∷ []
cause_words (causes.Gone bay) = codes "gone" ∷ decimal bay.0 ∷ []
cause_words (causes.Changed row) = codes "changed" ∷ decimal row.0 ∷ []
cause_words (causes.Released row) = codes "released" ∷ decimal row.0 ∷ []
cause_words (causes.Seized row) = codes "seized" ∷ decimal row.0 ∷ []
cause_words (causes.Spent seen) = codes "spent" ∷ decimal seen.0 ∷ []
cause_words causes.Quit = codes "quit" ∷ []

-- one digit for each block of a job, 1 where it is made
abbrev pub flag : ℕ → ℕ → ℕ
flag made block = if has_unit made block then 49 else 48

abbrev pub flags_text : ℕ → ℕ → List ℕ
flags_text made blocks = map (flag made) (range_with_len 0 blocks)

-- the unit that a recovery has named lost
abbrev pub lost_words : Option ℕ → List (List ℕ)
lost_words None = codes "none" ∷ []
lost_words (Some unit) = codes "unit" ∷ decimal unit ∷ []

abbrev pub row_word : Bool → List ℕ
row_word true = codes "closed"
row_word false = codes "open"

-- how a job ended, with the contents of a read and the number of blocks of a part
abbrev pub end_words : JobEnd → List Content → ℕ → List (List ℕ)
end_words (ends.Read n) contents blocks = codes "read" ∷ decimal n.0 ∷ map content_text contents
end_words (ends.Wrote n) contents blocks = codes "wrote" ∷ decimal n.0 ∷ []
end_words (ends.Part n made cause) contents blocks = codes "part" ∷ decimal n.0 ∷ flags_text made blocks ∷ cause_words cause
end_words (ends.Recovered n closed lost) contents blocks = codes "recovered" ∷ decimal n.0 ∷ row_word closed ∷ lost_words lost
end_words ends.Lost contents blocks = codes "lost" ∷ []
end_words ends.Fitted contents blocks = codes "fitted" ∷ []
end_words ends.Rebuilt contents blocks = codes "rebuilt" ∷ []
end_words (ends.Gave tries cause) contents blocks = codes "gave" ∷ decimal tries ∷ cause_words cause
end_words (ends.StillMissing bay) contents blocks = codes "still" ∷ decimal bay.0 ∷ []
end_words (ends.NotLost bay) contents blocks = codes "notlost" ∷ decimal bay.0 ∷ []
end_words (ends.NotFitted bay) contents blocks = codes "notfitted" ∷ decimal bay.0 ∷ []
end_words ends.NoObject contents blocks = codes "noobject" ∷ []
end_words (ends.PastEnd end) contents blocks = codes "pastend" ∷ decimal end ∷ []
end_words (ends.TooManyRows rows) contents blocks = codes "toomanyrows" ∷ decimal rows ∷ []

-- a result's line
abbrev pub job_line : JobResult → List Content → ℕ → List ℕ
job_line result contents blocks =
    line (codes "job" ∷ decimal result.host.0 ∷ decimal result.job ∷ end_words result.«end» contents blocks)

abbrev pub job_lines : List JobResult → List (List Content) → List ℕ → List ℕ
job_lines [] contents flags = []
job_lines (result ∷ results) [] flags = []
job_lines (result ∷ results) (read ∷ contents) [] = []
job_lines (result ∷ results) (read ∷ contents) (blocks ∷ flags) = job_line result read blocks ++ job_lines results contents flags

abbrev pub turn_line : Turn → List ℕ
turn_line turn = line (codes "turn" ∷ decimal turn.host.0 ∷ decimal turn.moment ∷ [])

-- the number of turns, and each turn
abbrev pub turn_lines : List Turn → List ℕ
turn_lines turns = line (codes "turns" ∷ decimal (length turns) ∷ []) ++ flat_map turn_line turns

-- what is shown of a block of an object
abbrev pub block_line : Address × Shown → List ℕ
block_line (address, shown) = line (codes "block" ∷ address.object ∷ decimal address.block ∷ shown_text shown ∷ [])

abbrev pub row_line : ℕ → Bool → List ℕ
row_line row closed = line (codes "row" ∷ decimal row ∷ row_word closed ∷ [])

-- those of some rows, the first of which has this number
abbrev pub row_lines : ℕ → List Bool → List ℕ
row_lines row [] = []
row_lines row (closed ∷ rows) = row_line row closed ++ row_lines (row + 1) rows

-- The text of a report: jobs, turns, blocks and rows
abbrev pub report_text : ReportOf → List ℕ
report_text report =
    line (codes "report" ∷ codes "1" ∷ []) ++ job_lines report.results report.contents report.flags ++ turn_lines report.turns
    ++ flat_map block_line report.blocks ++ row_lines 0 report.closed ++ line (codes "end" ∷ [])
