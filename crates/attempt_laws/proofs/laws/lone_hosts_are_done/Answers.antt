use Rattle.attempt_laws.proofs.lone.LoneBays.{lone_hosts_are_done}
use Rattle.attempt_laws.proofs.laws.lone_hosts_are_done.Goals as goal

pub returns : goal.returns
returns c = lone_hosts_are_done
