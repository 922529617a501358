use Rattle.std.proofs.Common.{refl}
use Rattle.text_lines.proofs.WordLemmas.{behind_piece, other_piece}
use Rattle.text_lines.proofs.NumberLemmas.{labelled}
use Rattle.text_lines.proofs.lines.read_labelled.Goals as goal

pub returns-in_err-digits-clause-of_text : goal.returns-in_err-digits-clause-of_text
returns-in_err-digits-clause-of_text c = λ digits h is. absurd (other_piece c.args.line.now c.args.label.now digits c.in_err-digits.ensures.cases is)

pub returns-clause-some : goal.returns-clause-some
returns-clause-some c =
    let cases = c.in_ok-digits.ensures.cases in
    labelled c.read_number.result c.args.line.now c.args.label.now c.in_ok-digits.digits.now c.read_number.ensures.some c.read_number.ensures.value ((behind_piece c.args.line.now c.args.label.now c.in_ok-digits.digits.now c.in_ok-digits.digits.now cases.0 cases.1).1 refl)
