use Rattle.slot_rules.proofs.ReplayLaws.{notes_have_origins_lem}
use Rattle.slot_rules.proofs.laws.notes_have_origins.Goals as goal

pub returns : goal.returns
returns c = notes_have_origins_lem
