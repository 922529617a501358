use Rattle.histories.proofs.bounds.Quotas.{requests_keep_quotas}
use Rattle.histories.proofs.laws.requests_keep_quotas.Goals as goal

pub returns : goal.returns
returns c = requests_keep_quotas
