use Rattle.std.proofs.Common.{refl}
use Rattle.std.specs.List.{flat_map}
use Rattle.report_text.specs.Report.{turn_line}
use Rattle.report_text.proofs.Appending.{appends-stops, appends-then}
use Rattle.report_text.proofs.sections.put_turns.Goals as goal

pub returns-in_err-put_turn_count : goal.returns-in_err-put_turn_count
returns-in_err-put_turn_count g c = appends-stops _ (flat_map turn_line c.args.turns.now) c.in_err-put_turn_count.ensures c.from_residual.ensures.0 refl

pub returns : goal.returns
returns g c = appends-then c.in_ok-put_turn_count.ensures c.put_each_turn.ensures refl
