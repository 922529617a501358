use Rattle.std.proofs.Common.{arith}
use Rattle.slot_rules.proofs.readers.Readers.add.Goals as goal
use Rattle.slot_rules.proofs.ReaderLists.{one_per_host-push, readers_room}

pub push-requires : goal.push-requires
push-requires c =
    let room = readers_room c.self.inside.readers.items c.args.reader c.self.invariant c.requires.host (rw (c.self.view_is) c.requires.absent) in
    omega arith

pub invariant_of-self : goal.invariant_of-self
invariant_of-self c =
    rw c.push.ensures.items (one_per_host-push c.self.inside.readers.items c.args.reader c.self.invariant c.requires.host (rw (c.self.view_is) c.requires.absent))
