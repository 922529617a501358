use Rattle.serial_array.proofs.EffectLemmas.{effects_touch}
use Rattle.serial_array.proofs.laws.effects_touch.Goals as goal

pub returns : goal.returns
returns c = effects_touch
