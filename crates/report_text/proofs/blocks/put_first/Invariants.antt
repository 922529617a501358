use Rattle.std.proofs.Common.{take}
use Rattle.std.specs.Prelude.{Ok}
use Rattle.std.specs.List.{flat_map}
use Rattle.report_text.specs.Appends.{Appends}
use Rattle.report_text.specs.Views.{shown_line, first_blocks}
use Rattle.report_text.proofs.blocks.put_first.Given as goal

abbrev pub invariant-loop-block : goal.invariant-loop-block
invariant-loop-block g l =
    Appends g.K.Sink.tells g.K.Sink.written g.K.Sink.faults l.initial.sink (flat_map (shown_line l.objects.n l.objects.objects l.cells l.opened) (take l.block (first_blocks l.object l.blocks))) (Ok tt) l.sink
