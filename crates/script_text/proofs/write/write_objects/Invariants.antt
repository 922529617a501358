use Rattle.std.proofs.Common.{take, Ok}
use Rattle.std.specs.List.{flat_map}
use Rattle.virtual_objects.specs.Objects.{Object}
use Rattle.text_lines.specs.Lines.{line}
use Rattle.script_text.specs.Text.{object_words}
use Rattle.text_lines.specs.Writing.{Writes}
use Rattle.script_text.proofs.write.write_objects.Given as goal

abbrev pub invariant-loop-object : goal.invariant-loop-object
invariant-loop-object g l = Writes g.K.Sink.written g.K.Sink.tells g.K.Sink.faults l.initial.sink l.sink (Ok tt) (flat_map (λ (object : Object). line (object_words object)) (take l.object-index l.objects))
