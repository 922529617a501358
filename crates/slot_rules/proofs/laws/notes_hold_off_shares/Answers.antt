use Rattle.slot_rules.proofs.ReplayLaws.{notes_hold_off_shares_lem}
use Rattle.slot_rules.proofs.laws.notes_hold_off_shares.Goals as goal

pub returns : goal.returns
returns c = notes_hold_off_shares_lem
