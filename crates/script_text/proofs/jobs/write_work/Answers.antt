use Rattle.std.proofs.Common.{ap, refl, sym, ◌∙◌, Some}
use Rattle.std.specs.ControlFlow.{continue_value}
use Rattle.script_text.specs.Forms.{Writes, value, words, write_work}
use Rattle.script_text.proofs.WordTexts.{two-behind, is-number}
use Rattle.script_text.proofs.FormLemmas.{write-is}
use Rattle.script_text.proofs.jobs.write_work.Goals as goal

pub returns-then-are_blocks-clause-value : goal.returns-then-are_blocks-clause-value
returns-then-are_blocks-clause-value c =
    let words_are = two-behind c.args.rest c.split_word.result.1 c.split_word-2.result.1 _ c.split_word.result.0 _ c.split_word-2.result.0 _ (c.branch-rest.ensures ∙ ap continue_value c.in_ok-rest.is) c.split_word.ensures
    (c.branch-rest-2.ensures ∙ ap continue_value c.in_ok-rest-2.is) c.split_word-2.ensures (c.branch-blocks.ensures ∙ ap continue_value c.in_ok-blocks.is) in
    ap (λ name. Some (Writes name c.in_ok-first.first (words c.in_ok-blocks.blocks.now))) c.in_ok-name.ensures.value ∙ ap (λ first. Some (Writes c.split_word.result.0.now first (words c.in_ok-blocks.blocks.now))) c.in_ok-first.ensures.value
    ∙ sym (ap write_work words_are ∙ write-is c.split_word.result.0.now c.split_word-2.result.0.now c.in_ok-blocks.blocks.now (c.in_ok-name.ensures.some.0 refl) (c.in_ok-first.ensures.some.0 refl) (sym c.are_blocks.ensures ∙ c.if-are_blocks.true))
