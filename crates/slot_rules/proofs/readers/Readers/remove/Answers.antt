use Rattle.std.proofs.Common.{◌≡◌, refl, ◌∙◌, rules, tests}
use Rattle.slot_rules.specs.Rules.{other_readers}
use Rattle.slot_rules.proofs.readers.Readers.remove.Goals as goal
use Rattle.arrayvec.proofs.ArrayVecLemmas.{filter-from_retain}
use Rattle.slot_rules.proofs.ReaderLists.{one_per_host-filter}

pub invariant_of-self : goal.invariant_of-self
invariant_of-self c =
    let e : c.retain.new.self.items ≡ other_readers c.args.id c.self.inside.readers.items = filter-from_retain _ _ _ (λ x b f' y called. search (rules, tests)) _ _ c.retain.ensures.filtered in
    rw e (one_per_host-filter _ c.self.inside.readers.items c.self.invariant)

pub returns : goal.returns
returns c =
    let e : c.retain.new.self.items ≡ other_readers c.args.id c.self.inside.readers.items = filter-from_retain _ _ _ (λ x b f' y called. search (rules, tests)) _ _ c.retain.ensures.filtered in
    e ∙ rw c.self.view_is refl
