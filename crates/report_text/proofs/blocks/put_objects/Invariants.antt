use Rattle.std.proofs.Common.{take}
use Rattle.std.specs.Prelude.{Ok}
use Rattle.std.specs.List.{flat_map}
use Rattle.report_text.specs.Appends.{Appends}
use Rattle.report_text.specs.Views.{shown_line, object_blocks}
use Rattle.report_text.proofs.blocks.put_objects.Given as goal

abbrev pub invariant-loop-object : goal.invariant-loop-object
invariant-loop-object g l =
    let n = l.objects.n in
    Appends g.K.Sink.tells g.K.Sink.written g.K.Sink.faults l.initial.sink (flat_map (λ object. flat_map (shown_line n l.objects.objects l.cells l.opened) (object_blocks n object)) (take l.object-index l.objects.objects)) (Ok tt) l.sink
