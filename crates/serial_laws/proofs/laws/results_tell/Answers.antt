use Rattle.serial_laws.proofs.results.ResultTells.{results_tell}
use Rattle.serial_laws.proofs.laws.results_tell.Goals as goal

pub returns : goal.returns
returns c = results_tell
