-- Which line may come next, and what the report then says.
use Rattle.std.specs.Prelude.{◌≡◌, ℕ, ◌-◌, ◌==◌, ◌&&◌, Bool, List, [], ◌∷◌, ◌++◌, length, Option, Some, None, if◌then◌else◌}
use Rattle.raid_base.specs.declared.numbers.HostNo.{HostNo}
use Rattle.raid_base.specs.declared.messages.Turn.{Turn}
use Rattle.raid_base.specs.declared.cells.Shown.{Shown}
use Rattle.virtual_objects.specs.Objects.{Address}
use Rattle.report_text.specs.Report.{ReportOf}
use Rattle.report_text.specs.Ranges.{job_follows, block_follows}
use Rattle.report_text.specs.Endings.{EndingOf}
use Rattle.report_text.specs.Drafting.{DraftOf}
use Rattle.report_text.specs.declared.reading.items.Line.{Line}
use Rattle.report_text.specs.declared.reading.items.Line.TheVariants as lines
use Rattle.report_text.specs.declared.reading.drafts.Section.{Section}
use Rattle.report_text.specs.declared.reading.drafts.Section.TheVariants as sections

abbrev pub no_report : ReportOf
no_report = record { results = []; contents = []; flags = []; turns = []; blocks = []; closed = [] }

abbrev pub at : Section → ReportOf → DraftOf
at section report = record { section = section; report = report }

-- the report with a result more
abbrev pub with_job : ReportOf → HostNo → ℕ → EndingOf → ReportOf
with_job r host job e = record {
  results = r.results ++ record { host = host; job = job; «end» = e.«end» } ∷ [];
  contents = r.contents ++ e.contents ∷ [];
  flags = r.flags ++ e.flags ∷ [];
  turns = r.turns;
  blocks = r.blocks;
  closed = r.closed;
}

abbrev pub with_turn : ReportOf → Turn → ReportOf
with_turn r turn = record { results = r.results; contents = r.contents; flags = r.flags; turns = r.turns ++ turn ∷ []; blocks = r.blocks; closed = r.closed }

abbrev pub with_block : ReportOf → List ℕ → ℕ → Shown → ReportOf
with_block r object block shown = record {
  results = r.results;
  contents = r.contents;
  flags = r.flags;
  turns = r.turns;
  blocks = r.blocks ++ (record { object = object; block = block }, shown) ∷ [];
  closed = r.closed;
}

abbrev pub with_row : ReportOf → Bool → ReportOf
with_row r closed = record { results = r.results; contents = r.contents; flags = r.flags; turns = r.turns; blocks = r.blocks; closed = r.closed ++ closed ∷ [] }

-- the first line
abbrev pub head_in : Section → ReportOf → Option DraftOf
head_in sections.Start report = Some (at sections.Jobs report)
head_in _ report = None

-- a result's line
abbrev pub job_in : Section → ReportOf → HostNo → ℕ → EndingOf → Option DraftOf
job_in sections.Jobs report host job e = if job_follows report.results host job then Some (at sections.Jobs (with_job report host job e)) else None
job_in _ report host job e = None

-- the line that counts the turns
abbrev pub turns_in : Section → ReportOf → ℕ → Option DraftOf
turns_in sections.Jobs report count = Some (at (sections.Turns count) report)
turns_in _ report count = None

-- a turn's line
abbrev pub turn_in : Section → ReportOf → Turn → Option DraftOf
turn_in (sections.Turns left) report turn = if left == 0 then None else Some (at (sections.Turns (left - 1)) (with_turn report turn))
turn_in _ report turn = None

-- a block's line
abbrev pub block_in : Section → ReportOf → List ℕ → ℕ → Shown → Option DraftOf
block_in (sections.Turns left) report object block shown =
    if left == 0 && block_follows report.blocks object block then Some (at (sections.Turns left) (with_block report object block shown)) else None
block_in _ report object block shown = None

-- a row's line
abbrev pub row_in : Section → ReportOf → ℕ → Bool → Option DraftOf
row_in (sections.Turns left) report row closed = if left == 0 && (row == length report.closed) then Some (at sections.Rows (with_row report closed)) else None
row_in sections.Rows report row closed = if row == length report.closed then Some (at sections.Rows (with_row report closed)) else None
row_in _ report row closed = None

-- the last line
abbrev pub end_in : Section → ReportOf → Option DraftOf
end_in sections.Rows report = Some (at sections.Done report)
end_in _ report = None

-- what has been read with one more line, and none where that line may not come next
abbrev pub next : DraftOf → Line → Option DraftOf
next d lines.Head = head_in d.section d.report
next d (lines.Job host job e) = job_in d.section d.report host job e
next d (lines.Turns count) = turns_in d.section d.report count
next d (lines.Turn turn) = turn_in d.section d.report turn
next d (lines.Block object block shown) = block_in d.section d.report object block shown
next d (lines.Row row closed) = row_in d.section d.report row closed
next d lines.End = end_in d.section d.report

abbrev pub finished_in : Section → ReportOf → Option ReportOf
finished_in sections.Done report = Some report
finished_in _ report = None

-- the report, where its last line has been read
abbrev pub finished : DraftOf → Option ReportOf
finished d = finished_in d.section d.report
