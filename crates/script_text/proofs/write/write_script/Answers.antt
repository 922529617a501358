use Rattle.std.proofs.Common.{◌∙◌, ap, refl}
use Rattle.text_lines.proofs.WriteLemmas.{handed_on, two_first, two_last, three_second, writes_fails, writes_then}
use Rattle.script_text.specs.Script.{Script}
use Rattle.script_text.proofs.WriteTexts.{script_is}
use Rattle.script_text.proofs.write.write_script.Goals as goal

pub returns-in_err-write_head : goal.returns-in_err-write_head
returns-in_err-write_head g c =
    let s = c.args.script.now in
    handed_on _ _ _ _ _ _ _ _ c.from_residual.ensures.0 (two_first g.K.Sink.written g.K.Sink.tells g.K.Sink.faults _ _ c.in_err-write_head.field-0.0 _ _ _ (script_is s s.objects s.hosts s.turns refl refl refl) c.in_err-write_head.ensures)

pub returns-in_err-write_objects : goal.returns-in_err-write_objects
returns-in_err-write_objects g c =
    let s = c.args.script.now in
    let objects = c.as_slice.ensures.value ∙ ap (λ (t : Script). t.objects) c.script.view_is in
    handed_on _ _ _ _ _ _ _ _ c.from_residual-in_err-write_objects.ensures.0 (three_second g.K.Sink.written g.K.Sink.tells g.K.Sink.faults _ _ _ c.in_err-write_objects.field-0.0 _ _ _ _ (script_is s c.as_slice.result.now s.hosts s.turns objects refl refl) c.in_ok-write_head.ensures c.in_err-write_objects.ensures)

pub returns-in_err-write_hosts : goal.returns-in_err-write_hosts
returns-in_err-write_hosts g c =
    let s = c.args.script.now in
    let objects = c.as_slice.ensures.value ∙ ap (λ (t : Script). t.objects) c.script.view_is in
    handed_on _ _ _ _ _ _ _ _ c.from_residual-in_err-write_hosts.ensures.0 (two_last g.K.Sink.written g.K.Sink.tells g.K.Sink.faults _ _ _ _ _ _ _ (script_is s c.as_slice.result.now c.hosts.result.now s.turns objects c.hosts.ensures refl) c.in_ok-write_head.ensures
    (writes_then g.K.Sink.written g.K.Sink.tells g.K.Sink.faults _ _ _ _ _ _ c.in_ok-write_objects.ensures (writes_fails g.K.Sink.written g.K.Sink.tells g.K.Sink.faults _ _ c.in_err-write_hosts.field-0.0 _ _ c.in_err-write_hosts.ensures)))

pub returns-in_err-write_turns : goal.returns-in_err-write_turns
returns-in_err-write_turns g c =
    let s = c.args.script.now in
    let objects = c.as_slice.ensures.value ∙ ap (λ (t : Script). t.objects) c.script.view_is in
    let turns = c.as_slice-2.ensures.value ∙ ap (λ (t : Script). t.turns) c.script.view_is in
    handed_on _ _ _ _ _ _ _ _ c.from_residual-in_err-write_turns.ensures.0 (two_last g.K.Sink.written g.K.Sink.tells g.K.Sink.faults _ _ _ _ _ _ _ (script_is s c.as_slice.result.now c.hosts.result.now c.as_slice-2.result.now objects c.hosts.ensures turns) c.in_ok-write_head.ensures
    (writes_then g.K.Sink.written g.K.Sink.tells g.K.Sink.faults _ _ _ _ _ _ c.in_ok-write_objects.ensures (writes_then g.K.Sink.written g.K.Sink.tells g.K.Sink.faults _ _ _ _ _ _ c.in_ok-write_hosts.ensures (writes_fails g.K.Sink.written g.K.Sink.tells g.K.Sink.faults _ _ c.in_err-write_turns.field-0.0 _ _ c.in_err-write_turns.ensures))))

pub returns : goal.returns
returns g c =
    let s = c.args.script.now in
    let objects = c.as_slice.ensures.value ∙ ap (λ (t : Script). t.objects) c.script.view_is in
    let turns = c.as_slice-2.ensures.value ∙ ap (λ (t : Script). t.turns) c.script.view_is in
    two_last g.K.Sink.written g.K.Sink.tells g.K.Sink.faults _ _ _ _ _ _ _ (script_is s c.as_slice.result.now c.hosts.result.now c.as_slice-2.result.now objects c.hosts.ensures turns) c.in_ok-write_head.ensures
    (writes_then g.K.Sink.written g.K.Sink.tells g.K.Sink.faults _ _ _ _ _ _ c.in_ok-write_objects.ensures (writes_then g.K.Sink.written g.K.Sink.tells g.K.Sink.faults _ _ _ _ _ _ c.in_ok-write_hosts.ensures (writes_then g.K.Sink.written g.K.Sink.tells g.K.Sink.faults _ _ _ _ _ _ c.in_ok-write_turns.ensures c.write_piece.ensures)))
