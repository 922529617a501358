use Rattle.schedule_play.proofs.PlayLemmas.{last-at}
use Rattle.schedule_play.proofs.playing.last_moment.Goals as goal

pub returns-in-len1-up : goal.returns-in-len1-up
returns-in-len1-up c = last-at c.args.turns.now _ c.in-len1-up.len_at_least
