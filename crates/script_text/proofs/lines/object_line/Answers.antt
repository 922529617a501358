use Rattle.std.proofs.Common.{ap, refl, sym, ◌∙◌, map}
use Rattle.std.specs.ControlFlow.{continue_value}
use Rattle.script_text.specs.Forms.{ObjectLine, value, words}
use Rattle.script_text.proofs.FormLemmas.{object-words}
use Rattle.script_text.proofs.lines.object_line.Goals as goal

pub returns-then-are_numbers-clause-form : goal.returns-then-are_numbers-clause-form
returns-then-are_numbers-clause-form c =
    object-words c.args.line.now c.split_word.result.1 c.split_word-2.result.1 _ c.split_word.result.0 c.split_word-2.result.0 _ c.split_word.ensures (c.branch-rest.ensures ∙ ap continue_value c.in_ok-rest.is) c.split_word-2.ensures
    (c.branch-rows.ensures ∙ ap continue_value c.in_ok-rows.is) (sym c.is_text.ensures ∙ c.if-not-is_text.false) (c.in_ok-name.ensures.some.0 refl) (sym c.are_numbers.ensures ∙ c.if-are_numbers.true)
    ∙ ap (λ name. ObjectLine name (map value (words c.in_ok-rows.rows.now))) (sym c.in_ok-name.ensures.value)
