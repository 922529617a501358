use Rattle.std.proofs.Common.{take}
use Rattle.std.specs.Prelude.{Ok}
use Rattle.std.specs.List.{flat_map}
use Rattle.report_text.specs.Appends.{Appends}
use Rattle.text_lines.specs.Lines.{spaced}
use Rattle.report_text.proofs.words.put_words.Given as goal

abbrev pub invariant-loop-word : goal.invariant-loop-word
invariant-loop-word g l = Appends g.K.Sink.tells g.K.Sink.written g.K.Sink.faults l.initial.sink (flat_map (λ w. spaced w.now) (take l.word-index l.words)) (Ok tt) l.sink
