use Rattle.attempt_laws.proofs.calm.CalmBays.{calm_plays_close}
use Rattle.attempt_laws.proofs.laws.calm_plays_close.Goals as goal

pub returns : goal.returns
returns c = calm_plays_close
