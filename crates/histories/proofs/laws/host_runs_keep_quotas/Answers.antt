use Rattle.histories.proofs.bounds.RunQuotas.{host_runs_keep_quotas}
use Rattle.histories.proofs.laws.host_runs_keep_quotas.Goals as goal

pub returns : goal.returns
returns c = host_runs_keep_quotas
