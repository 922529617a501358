use Rattle.serial_laws.proofs.results.HostResults.{numbers_are_apart}
use Rattle.serial_laws.proofs.laws.numbers_are_apart.Goals as goal

pub returns : goal.returns
returns c = numbers_are_apart
