use Rattle.attempts.proofs.OnceClaims.{claims_are_of_their_kind}
use Rattle.attempts.proofs.laws.claims_are_of_their_kind.Goals as goal

pub returns : goal.returns
returns c = claims_are_of_their_kind
