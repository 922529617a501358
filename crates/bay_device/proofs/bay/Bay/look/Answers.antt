use Rattle.std.proofs.Common.{◌≡◌, ◌≤◌, ℕ, List, length, sym, arith}
use Rattle.bay_device.proofs.BayLemmas.{look-shows}
use Rattle.bay_device.proofs.bay.Bay.look.Goals as goal

pub returns-clause-told : goal.returns-clause-told
returns-clause-told g c = λ told.
    let blocks : List (List ℕ) = g.D.Store.content c.args.self.now.store in
    let whole : length blocks ≡ g.D.Store.size c.args.self.now.store = g.met.D.Store.whole c.args.self.now.store told in
    let enough : length c.args.self.now.slots.slots ≤ length blocks = omega (arith, whole, c.args.self.now.stored) in
    look-shows c.args.self.now.slots blocks c.args.row c.in_ok-bytes.bytes c.mark-lost.result c.requires enough (sym (c.if-blank.ensures blocks)) (c.in_ok-bytes.ensures.value told) (c.mark-lost.ensures blocks)
