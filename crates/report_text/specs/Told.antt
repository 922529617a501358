-- What a report's text tells of it: of each note the host and the id alone, and all else.
use Rattle.std.specs.Prelude.{◌≡◌, map}
use Rattle.raid_base.specs.declared.messages.Note.{Note}
use Rattle.raid_base.specs.declared.jobs.Cause.{Cause}
use Rattle.raid_base.specs.declared.jobs.Cause.TheVariants as causes
use Rattle.raid_base.specs.declared.jobs.JobEnd.{JobEnd}
use Rattle.raid_base.specs.declared.jobs.JobEnd.TheVariants as ends
use Rattle.raid_base.specs.declared.jobs.JobResult.{JobResult}
use Rattle.report_text.specs.Report.{ReportOf, report_text}
use Rattle.report_text.specs.Ranges.{IsReport}

-- a note with its host and its id alone
abbrev pub note_told : Note → Note
note_told note = record { host = note.host; id = note.id; origin = note.id; mask = 0; moment = 0 }

abbrev pub cause_told : Cause → Cause
cause_told (causes.Busy holder) = causes.Busy (note_told holder)
cause_told (causes.Young note) = causes.Young (note_told note)
cause_told cause = cause

abbrev pub end_told : JobEnd → JobEnd
end_told (ends.Part n made cause) = ends.Part n made (cause_told cause)
end_told (ends.Gave tries cause) = ends.Gave tries (cause_told cause)
end_told how = how

abbrev pub result_told : JobResult → JobResult
result_told result =
    record { host = result.host; job = result.job; «end» = end_told result.«end» }

-- the report as its text tells it
abbrev pub as_told : ReportOf → ReportOf
as_told report = record {
  results = map result_told report.results;
  contents = report.contents;
  flags = report.flags;
  turns = report.turns;
  blocks = report.blocks;
  closed = report.closed;
}

-- The text of this report is a report's text, and no other report has it. So reading it back gives the
-- report as told, where it has fewer than 2^32 bytes and memory does not run out.
pub record IsTold (report : ReportOf) : Type 0 where
  pub is_report : IsReport (as_told report)
  pub text : report_text (as_told report) ≡ report_text report
  pub reads_back : (other : ReportOf) → IsReport other →
      report_text other ≡ report_text report → other ≡ as_told report
