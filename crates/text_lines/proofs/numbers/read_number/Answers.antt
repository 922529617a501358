use Rattle.std.proofs.Common.{sym, ap, ◌^◌, ◌∙◌, ◌-◌, Some, lit<}
use Rattle.text_lines.proofs.NumberLemmas.{text_of_read, read_of_text, not_of_text}
use Rattle.text_lines.proofs.numbers.read_number.Goals as goal

pub returns-then-is_number-clause-text : goal.returns-then-is_number-clause-text
returns-then-is_number-clause-text c = text_of_read _ _ (2 ^ 64 - 1) (lit< tt) (sym c.is_number.ensures ∙ c.if-is_number.true) c.value_of.ensures

pub returns-then-is_number-clause-of_text : goal.returns-then-is_number-clause-of_text
returns-then-is_number-clause-of_text c = λ n l is. ap Some (read_of_text c.args.text.now _ n c.value_of.ensures l is)

pub returns-else-is_number-clause-of_text : goal.returns-else-is_number-clause-of_text
returns-else-is_number-clause-of_text c = λ n l is. absurd (not_of_text c.args.text.now n (sym c.if-is_number.false ∙ c.is_number.ensures) l is)
