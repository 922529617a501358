use Rattle.std.proofs.Common.{◌∙◌, ap}
use Rattle.std.specs.Prelude.{decimal}
use Rattle.text_lines.proofs.WriteLemmas.{writes_text}
use Rattle.script_text.specs.Script.{Script}
use Rattle.script_text.specs.Text.{mode_word}
use Rattle.script_text.proofs.WriteTexts.{head_is}
use Rattle.script_text.proofs.write.write_head.Goals as goal

pub returns : goal.returns
returns g c =
    let is = c.script.view_is in
    writes_text _ _ _ _ _ _ _ _ (head_is c.args.script.now c.as_slice.result.now c.as_slice-2.result.now c.mode_word.result.now c.as_slice-3.result.now c.as_slice-4.result.now
    (c.as_slice.ensures.value ∙ c.number_text-devices.ensures ∙ ap decimal (c.from.ensures ∙ ap (λ (s : Script). s.n) is))
    (c.as_slice-2.ensures.value ∙ c.number_text-rows.ensures ∙ ap decimal (c.from-2.ensures ∙ ap (λ (s : Script). s.rows) is))
    (c.mode_word.ensures ∙ ap (λ (s : Script). mode_word s.mode) is)
    (c.as_slice-3.ensures.value ∙ c.number_text-patience.ensures ∙ ap (λ (s : Script). decimal s.patience) is)
    (c.as_slice-4.ensures.value ∙ c.number_text-tries.ensures ∙ ap decimal (c.from-3.ensures ∙ ap (λ (s : Script). s.tries) is))) c.write_pieces.ensures
