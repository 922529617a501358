use Rattle.slot_rules.proofs.ReaderLaws.{readers_hold_off_notes_lem}
use Rattle.slot_rules.proofs.laws.readers_hold_off_notes.Goals as goal

pub returns : goal.returns
returns c = readers_hold_off_notes_lem
