use Rattle.rack_turns.specs.Shadows.{shadow, shadows}
use Rattle.rack_turns.proofs.Begins.{begins}
use Rattle.rack_turns.proofs.turn.begin.Goals as goal

pub compare_exchange-found-requires : goal.compare_exchange-found-requires
compare_exchange-found-requires g c =
    (c.requires.table, c.requires.bay.0, begins shadow (shadows c.args.top.now.key.value.items) c.args.top.now.table_id.slots c.args.sitter.now.id c.args.sitter.now.me c.args.bay.0 c.args.host.0 c.requires.ready.0 c.requires.bay.1)
