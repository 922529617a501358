use Rattle.serial_array.proofs.OrderedLemmas.{results_are_serial}
use Rattle.serial_array.proofs.laws.results_are_serial.Goals as goal

pub returns : goal.returns
returns c = results_are_serial
