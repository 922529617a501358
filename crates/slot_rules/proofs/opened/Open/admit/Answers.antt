use Rattle.std.proofs.Common.{◌≡◌, sym, ◌∙◌, None, rules}
use Rattle.slot_rules.proofs.ReaderLists.{host_absent}
use Rattle.slot_rules.proofs.opened.Open.admit.Goals as goal

pub add-requires-clause-absent : goal.add-requires-clause-absent
add-requires-clause-absent c =
    let gone : c.with_id.result ≡ None = search rules in
    host_absent c.args.ask.now c.args.id c.args.self.now.readers c.requires.alone (sym c.with_id.ensures ∙ gone)
