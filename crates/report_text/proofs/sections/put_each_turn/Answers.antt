use Rattle.std.proofs.Common.{arith}
use Rattle.report_text.specs.Report.{turn_line}
use Rattle.report_text.proofs.Appending.{appends-turn, appends-fails, appends-all}
use Rattle.report_text.proofs.sections.put_each_turn.Goals as goal

pub returns-in_err-put_turn : goal.returns-in_err-put_turn
returns-in_err-put_turn g c =
    appends-fails turn_line c.args.turns.now c.loop-turn.turn-index _ (omega arith) c.loop-turn.invariant c.in_err-put_turn.ensures c.from_residual.ensures.0

pub loop-turn-preserved : goal.loop-turn-preserved
loop-turn-preserved g c = appends-turn turn_line c.args.turns.now c.loop-turn.turn-index _ (omega arith) c.loop-turn.invariant c.in_ok-put_turn.ensures

pub returns : goal.returns
returns g c = appends-all turn_line c.args.turns.now c.loop-turn.turn-index (omega arith) c.loop-turn.invariant
