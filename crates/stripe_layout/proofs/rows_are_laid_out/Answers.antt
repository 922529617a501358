use Rattle.stripe_layout.proofs.LayoutLemmas.{laid_out}
use Rattle.stripe_layout.proofs.rows_are_laid_out.Goals as goal

pub returns : goal.returns
returns c = λ n row h. laid_out n row h
