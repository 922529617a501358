-- The play of hosts that have run beside each other, put into one order by the clocks of their requests.
use Rattle.std.specs.Prelude.{◌≡◌, List, []}
use Rattle.raid_base.specs.declared.messages.Call.{Call}
use Rattle.script_text.specs.Script.{Script}
use Rattle.report_text.specs.Report.{ReportOf}
use Rattle.histories.specs.History.{play}
use Rattle.histories.specs.Simulated.{with_turns}
use Rattle.clock_merge.specs.Tied.{faults_of}
use Rattle.clock_merge.specs.Turns.{AppendsMerge}
use Rattle.serial_laws.specs.Headline.{Outcome as PlayOutcome}
use Rattle.schedule_play.specs.Reported.{report_of}
use Rattle.array_cli.specs.Calls.{IsPlayed, IsReported}

-- History: the turns are the merge of the journals, and the history is the play of these turns with the faults that the journals tell.
-- All that the simulator promises of the script with these turns as its turn lines holds of it: the headline and the rest
pub record IsMergedPlay (script : Script) (outcome : PlayOutcome) (history : List Call) : Type 0 where
  pub merged : AppendsMerge outcome.journals [] outcome.turns
  pub played : history ≡ play script (faults_of outcome.journals) [] outcome.turns
  pub simulated : IsPlayed (with_turns script outcome.turns) outcome history

-- and the report is the one that the simulator prints for that script
pub record IsMergedReport (script : Script) (outcome : PlayOutcome) (report : ReportOf) : Type 0 where
  pub history : List Call
  pub input_output : report ≡ report_of script history
  pub play : IsMergedPlay script outcome history
  pub simulated : IsReported (with_turns script outcome.turns) outcome report
