use Rattle.raid_base.specs.declared.messages.Turn.{Turn}
use Rattle.text_lines.specs.Lines.{line}
use Rattle.script_text.specs.Text.{turn_words}
use Rattle.text_lines.proofs.WriteLemmas.{handed_on, writes_stopped}
use Rattle.script_text.proofs.write.write_turns.Goals as goal

pub returns-in_err-write_turn : goal.returns-in_err-write_turn
returns-in_err-write_turn g c =
    handed_on _ _ _ _ _ _ _ _ c.from_residual.ensures.0 (writes_stopped g.K.Sink.written g.K.Sink.tells g.K.Sink.faults (λ (turn : Turn). line (turn_words turn)) c.args.turns.now c.loop-turn.turn-index (record { host = record { 0 = 0 }; moment = 0 }) _ _ _ _ c.loop-turn-test.true c.loop-turn.invariant c.in_err-write_turn.ensures)
