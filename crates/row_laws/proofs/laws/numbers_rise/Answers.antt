use Rattle.row_laws.proofs.numbers.Risen.{numbers_rise}
use Rattle.row_laws.proofs.laws.numbers_rise.Goals as goal

pub returns : goal.returns
returns c = numbers_rise
