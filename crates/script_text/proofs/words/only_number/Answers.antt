use Rattle.std.proofs.Common.{ap, sym, ◌∙◌}
use Rattle.std.specs.ControlFlow.{continue_value}
use Rattle.script_text.proofs.WordTexts.{only-none, only-one, number-read}
use Rattle.script_text.proofs.words.only_number.Goals as goal

pub returns-in-Some : goal.returns-in-Some
returns-in-Some c = sym (only-none c.args.rest c.split_word.result.1 _ c.split_word.result.0 _ (c.branch-rest.ensures ∙ ap continue_value c.in_ok-rest.is) c.split_word.ensures c.in-Some.is)

pub returns-in-None : goal.returns-in-None
returns-in-None c =
    only-one c.args.rest c.split_word.result.1 _ c.split_word.result.0 _ (c.branch-rest.ensures ∙ ap continue_value c.in_ok-rest.is) c.split_word.ensures c.in-None.is
    (number-read _ c.split_word.result.0.now c.read_number.ensures.some c.read_number.ensures.value)
