use Rattle.degraded_plans.proofs.SoundRows.{parity_sound, lost_sound}
use Rattle.degraded_plans.proofs.Writes.{others_make, writes_keep_sound, writes_keep_made}
use Rattle.degraded_plans.proofs.laws.rows_stay_sound.Goals as goal

pub returns : goal.returns
returns c = record {
  parity = parity_sound;
  others = others_make;
  writes = writes_keep_sound;
  missing = writes_keep_made;
  lost = lost_sound;
}
