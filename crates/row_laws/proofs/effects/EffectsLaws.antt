-- What each attempt has committed by its end.
use Rattle.row_laws.specs.Effects.{AttemptsTellCommits}
use Rattle.row_laws.proofs.effects.Effects.{reads-commit-nothing, mends-commit-nothing, recoveries-tell}
use Rattle.row_laws.proofs.effects.EffectsWrites.{writes-tell}

pub attempts_tell_commits : AttemptsTellCommits
attempts_tell_commits = (writes-tell, λ r least. recoveries-tell r, reads-commit-nothing, mends-commit-nothing)
