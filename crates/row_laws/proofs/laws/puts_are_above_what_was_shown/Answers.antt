use Rattle.row_laws.proofs.numbers.ShownNumbers.{puts_are_above_what_was_shown}
use Rattle.row_laws.proofs.laws.puts_are_above_what_was_shown.Goals as goal

pub returns : goal.returns
returns c = puts_are_above_what_was_shown
