use Rattle.virtual_objects.specs.Objects.{Object}
use Rattle.text_lines.specs.Lines.{line}
use Rattle.script_text.specs.Text.{object_words}
use Rattle.text_lines.proofs.WriteLemmas.{handed_on, writes_stopped_item}
use Rattle.script_text.proofs.write.write_objects.Goals as goal

pub returns-in_err-write_object : goal.returns-in_err-write_object
returns-in_err-write_object g c =
    handed_on _ _ _ _ _ _ _ _ c.from_residual.ensures.0 (writes_stopped_item g.K.Sink.written g.K.Sink.tells g.K.Sink.faults (λ (object : Object). line (object_words object)) c.args.objects.now c.loop-object.object-index c.object-item.result _ _ _ c.in_err-write_object.field-0.0 c.loop-object-test.true c.object-item.is c.loop-object.invariant c.in_err-write_object.ensures)
