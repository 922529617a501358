use Rattle.attempts.proofs.WriteSound.{writes_keep_rows_sound}
use Rattle.attempts.proofs.laws.writes_keep_rows_sound.Goals as goal

pub returns : goal.returns
returns c = writes_keep_rows_sound
