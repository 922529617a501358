use Rattle.slot_rules.proofs.ReaderLaws.{releases_find_holders_lem}
use Rattle.slot_rules.proofs.laws.releases_find_holders.Goals as goal

pub returns : goal.returns
returns c = releases_find_holders_lem
