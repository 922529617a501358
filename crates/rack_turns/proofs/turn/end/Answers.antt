use Rattle.rack_turns.specs.Shadows.{shadow, shadows}
use Rattle.rack_turns.proofs.Ends.{ends}
use Rattle.rack_turns.proofs.turn.end.Goals as goal

pub store-requires : goal.store-requires
store-requires g c =
    (c.requires.table, c.requires.bay.0, ends shadow (shadows c.args.top.now.key.value.items) c.args.top.now.table_id.slots c.args.sitter.now.id c.args.sitter.now.me c.args.bay.0 c.requires.ready)
