use Rattle.std.proofs.Common.{take}
use Rattle.std.specs.Prelude.{Ok}
use Rattle.std.specs.List.{flat_map}
use Rattle.report_text.specs.Appends.{Appends}
use Rattle.report_text.specs.Report.{turn_line}
use Rattle.report_text.proofs.sections.put_each_turn.Given as goal

abbrev pub invariant-loop-turn : goal.invariant-loop-turn
invariant-loop-turn g l = Appends g.K.Sink.tells g.K.Sink.written g.K.Sink.faults l.initial.sink (flat_map turn_line (take l.turn-index l.turns)) (Ok tt) l.sink
