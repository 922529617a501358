use Rattle.histories.proofs.bounds.Quotas.{totals_cover_requests}
use Rattle.histories.proofs.laws.totals_cover_requests.Goals as goal

pub returns : goal.returns
returns c = totals_cover_requests
