use Rattle.serial_laws.proofs.results.HostResults.{hosts_have_results}
use Rattle.serial_laws.proofs.laws.hosts_have_results.Goals as goal

pub returns : goal.returns
returns c = hosts_have_results
