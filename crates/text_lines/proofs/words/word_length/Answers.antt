use Rattle.std.proofs.Common.{◌∙◌, sym, arith, length}
use Rattle.std.proofs.lemmas.List.Sums.{position_or_len_is}
use Rattle.text_lines.specs.Lines.{is_separator}
use Rattle.text_lines.proofs.words.word_length.Goals as goal

pub returns-then-is_separator-clause-value : goal.returns-then-is_separator-clause-value
returns-then-is_separator-clause-value c = sym (position_or_len_is is_separator c.args.text.now c.loop-i.i 0 (omega arith) c.loop-i.invariant (λ l. sym c.is_separator.ensures ∙ c.if-is_separator.true))

pub returns-clause-value : goal.returns-clause-value
returns-clause-value c = sym (position_or_len_is is_separator c.args.text.now (length c.args.text.now) 0 (omega arith) (λ k l. c.loop-i.invariant k (omega arith)) (λ l. absurd (omega arith)))
