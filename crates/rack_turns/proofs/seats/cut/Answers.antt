use Rattle.rack_turns.specs.Shadows.{shadow, shadows}
use Rattle.rack_turns.proofs.Gives.{gives-pass}
use Rattle.rack_turns.proofs.seats.cut.Goals as goal

pub split_seat-requires : goal.split_seat-requires
split_seat-requires g c =
    (c.requires.table.0, c.requires.table.1, gives-pass shadow (shadows c.args.top.now.key.value.items) c.args.sitter.now.id g.J.Gift.host g.J.Gift.quota c.args.sitter.now.me.0 c.requires.may)
