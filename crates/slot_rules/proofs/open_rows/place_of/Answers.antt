use Rattle.std.proofs.Common.{sym}
use Rattle.slot_rules.proofs.OpenEntries.{place-is}
use Rattle.slot_rules.proofs.open_rows.place_of.Goals as goal

pub returns : goal.returns
returns c = place-is c.args.entries.now.entries c.args.row c.in-Some.place c.requires (sym (c.in-Some.ensures {u = tt}).index)
