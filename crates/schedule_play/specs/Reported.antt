-- Input and output: the report of the play.
use Rattle.std.specs.Prelude.{List, not, map, flat_map}
use Rattle.std.specs.List.{range_with_len}
use Rattle.raid_base.specs.declared.messages.Call.{Call}
use Rattle.script_text.specs.Script.{Script}
use Rattle.report_text.specs.Report.{ReportOf}
use Rattle.report_text.specs.Views.{object_blocks, flags_of}
use Rattle.histories.specs.History.{turns_of}
use Rattle.histories.specs.RowStates.{is_open}
use Rattle.histories.specs.Results.{results, contents, shown_block}

abbrev pub report_of : Script → List Call → ReportOf
report_of script history = record {
  results = results script history;
  contents = contents script history;
  flags = map (flags_of script) (results script history);
  turns = turns_of history;
  blocks = map (λ address. (address, shown_block script history address)) (flat_map (object_blocks script.n) script.objects);
  closed = map (λ row. not (is_open script history (record { 0 = row }))) (range_with_len 0 script.rows);
}
