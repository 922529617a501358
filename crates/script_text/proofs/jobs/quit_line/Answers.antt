use Rattle.std.proofs.Common.{ap, sym, ◌∙◌}
use Rattle.std.specs.ControlFlow.{continue_value}
use Rattle.script_text.proofs.WordTexts.{two-words, not-number}
use Rattle.script_text.proofs.FormLemmas.{quit-none}
use Rattle.script_text.specs.Forms.{quit_form, words_behind}
use Rattle.script_text.specs.Steps.{job_found}
use Rattle.script_text.proofs.jobs.quit_line.Goals as goal

pub returns-in_err-requests-clause-form : goal.returns-in_err-requests-clause-form
returns-in_err-requests-clause-form c =
    ap quit_form (two-words c.args.rest c.split_word.result.1 c.split_word-2.result.1 _ c.split_word.result.0 _ c.split_word-2.result.0 (c.branch-rest.ensures ∙ ap continue_value c.in_ok-rest.is) c.split_word.ensures
    (c.branch-rest-2.ensures ∙ ap continue_value c.in_ok-rest-2.is) c.split_word-2.ensures)
    ∙ quit-none c.split_word.result.0.now c.split_word-2.result.0.now (words_behind c.split_word-2.result.1) (not-number c.split_word.result.0.now c.read_number.result c.in_err-requests.was c.read_number.ensures.some)
    ∙ sym (ap job_found c.from_residual-in_err-requests.ensures)
