use Rattle.row_laws.proofs.effects.EffectsLaws.{attempts_tell_commits}
use Rattle.row_laws.proofs.laws.attempts_tell_commits.Goals as goal

pub returns : goal.returns
returns c = attempts_tell_commits
