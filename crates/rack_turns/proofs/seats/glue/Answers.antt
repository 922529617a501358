use Rattle.rack_turns.specs.Shadows.{shadow, shadows}
use Rattle.rack_turns.proofs.Joins.{joins-pass}
use Rattle.rack_turns.proofs.seats.glue.Goals as goal

pub join_seat-requires : goal.join_seat-requires
join_seat-requires g c =
    let t = c.requires.table in
    (t.0, c.requires.other.0, c.requires.other.1, t.1, joins-pass shadow (shadows c.args.top.now.key.value.items) c.args.sitter.now.id c.args.other.id c.args.sitter.now.me.0 c.args.other.me.0 c.requires.first c.requires.guest.0 c.requires.guest.1)
