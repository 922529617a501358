use Rattle.slot_rules.proofs.readers.Readers.clear.Goals as goal

pub invariant_of-self : goal.invariant_of-self
invariant_of-self c = rw c.clear.ensures tt
