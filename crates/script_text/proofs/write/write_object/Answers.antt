use Rattle.std.proofs.Common.{◌∙◌, ap, refl}
use Rattle.virtual_objects.specs.Objects.{Object}
use Rattle.text_lines.proofs.WriteLemmas.{handed_on, two_first, three_second, three_last}
use Rattle.script_text.proofs.WriteTexts.{object_is}
use Rattle.script_text.proofs.write.write_object.Goals as goal

pub returns-in_err-write_pieces : goal.returns-in_err-write_pieces
returns-in_err-write_pieces g c =
    let name = c.as_bytes.ensures.value ∙ ap (λ (o : Object). o.name) c.object.view_is in
    handed_on _ _ _ _ _ _ _ _ c.from_residual.ensures.0 (two_first g.K.Sink.written g.K.Sink.tells g.K.Sink.faults _ _ c.in_err-write_pieces.field-0.0 _ _ _ (object_is c.args.object.now _ _ name refl) c.in_err-write_pieces.ensures)

pub returns-in_err-write_rows : goal.returns-in_err-write_rows
returns-in_err-write_rows g c =
    let name = c.as_bytes.ensures.value ∙ ap (λ (o : Object). o.name) c.object.view_is in
    let rows = c.as_slice.ensures.value ∙ ap (λ (o : Object). o.rows) c.object.view_is in
    handed_on _ _ _ _ _ _ _ _ c.from_residual-in_err-write_rows.ensures.0 (three_second g.K.Sink.written g.K.Sink.tells g.K.Sink.faults _ _ _ c.in_err-write_rows.field-0.0 _ _ _ _ (object_is c.args.object.now _ _ name rows) c.in_ok-write_pieces.ensures c.in_err-write_rows.ensures)

pub returns : goal.returns
returns g c =
    let name = c.as_bytes.ensures.value ∙ ap (λ (o : Object). o.name) c.object.view_is in
    let rows = c.as_slice.ensures.value ∙ ap (λ (o : Object). o.rows) c.object.view_is in
    three_last g.K.Sink.written g.K.Sink.tells g.K.Sink.faults _ _ _ _ _ _ _ _ _ (object_is c.args.object.now _ _ name rows) c.in_ok-write_pieces.ensures c.in_ok-write_rows.ensures c.write_piece.ensures
