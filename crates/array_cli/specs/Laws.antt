-- The laws of reports, of every order in which requests reach the devices.
use Rattle.std.specs.Prelude.{◌≡◌, ℕ, ◌^◌, ◌<◌, ◌≤◌, true, List, length}
use Rattle.raid_base.specs.declared.messages.Call.{Call}
use Rattle.raid_base.specs.declared.numbers.BayNo.{BayNo}
use Rattle.script_text.specs.Script.{Script}
use Rattle.script_text.specs.Ranges.{IsScript, all_jobs}
use Rattle.script_text.specs.Weights.{total}
use Rattle.report_text.specs.Report.{ReportOf}
use Rattle.report_text.specs.Told.{IsTold}
use Rattle.histories.specs.History.{Faults, faults_in, IsHistory}
use Rattle.histories.specs.Turns.{all_ended}
use Rattle.schedule_play.specs.Reported.{report_of}
use Rattle.serial_laws.specs.Headline.{Outcome as PlayOutcome}
use Rattle.array_cli.specs.Calls.{IsReported}
use Rattle.array_cli.specs.Moments.{AreTimely}
use Rattle.array_cli.specs.SerialReports.{IsSerialReport}

-- Once all hosts have ended, the report of every history of a script is serial.
abbrev pub ReportsAreSerial : Type 0
ReportsAreSerial = (script : Script) (history : List Call) → IsScript script → IsHistory script history →
    all_ended script history ≡ true → IsSerialReport script (report_of script history)

-- And where the script has fewer than 2^32 jobs and is not too heavy, and its hosts have asked at moments
-- below 2^40, the report has a text, which is read back as what it tells.
abbrev pub ReportsHaveTexts : Type 0
ReportsHaveTexts = (script : Script) (history : List Call) → IsScript script →
    length (all_jobs script) < 2 ^ 32 → total script ≤ 2 ^ 20 → IsHistory script history →
    all_ended script history ≡ true → AreTimely history → IsTold (report_of script history)

-- stores that fail at the same calls
abbrev pub FailAlike : Faults → Faults → Type 0
FailAlike faults others = (bay : BayNo) (place : ℕ) → faults bay place ≡ others bay place

-- Over stores that fail at the same calls a script has one report.
abbrev pub SimulatedReportsAreOne : Type 0
SimulatedReportsAreOne = (script : Script) (one other : PlayOutcome) (report again : ReportOf) →
    (first : IsReported script one report) → (second : IsReported script other again) →
    FailAlike (faults_in first.history) (faults_in second.history) → report ≡ again
