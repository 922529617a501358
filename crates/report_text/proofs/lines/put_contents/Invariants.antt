use Rattle.std.proofs.Common.{take}
use Rattle.std.specs.Prelude.{Ok}
use Rattle.std.specs.List.{flat_map}
use Rattle.report_text.specs.Appends.{Appends}
use Rattle.report_text.specs.Report.{content_text}
use Rattle.text_lines.specs.Lines.{spaced}
use Rattle.report_text.proofs.lines.put_contents.Given as goal

abbrev pub invariant-loop-content : goal.invariant-loop-content
invariant-loop-content g l =
    Appends g.K.Sink.tells g.K.Sink.written g.K.Sink.faults l.initial.sink (flat_map (λ content. spaced (content_text content)) (take l.content-index l.contents)) (Ok tt) l.sink
