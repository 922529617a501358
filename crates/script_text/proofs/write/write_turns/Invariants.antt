use Rattle.std.proofs.Common.{take, Ok}
use Rattle.std.specs.List.{flat_map}
use Rattle.raid_base.specs.declared.messages.Turn.{Turn}
use Rattle.text_lines.specs.Lines.{line}
use Rattle.script_text.specs.Text.{turn_words}
use Rattle.text_lines.specs.Writing.{Writes}
use Rattle.script_text.proofs.write.write_turns.Given as goal

abbrev pub invariant-loop-turn : goal.invariant-loop-turn
invariant-loop-turn g l = Writes g.K.Sink.written g.K.Sink.tells g.K.Sink.faults l.initial.sink l.sink (Ok tt) (flat_map (λ (turn : Turn). line (turn_words turn)) (take l.turn-index l.turns))
