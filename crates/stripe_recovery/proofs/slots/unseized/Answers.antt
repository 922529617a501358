use Rattle.std.proofs.Common.{◌++◌, append-nil, ap, sym, ◌∙◌, arith}
use Rattle.attempts.specs.Recovery.{unseized}
use Rattle.attempts.proofs.UnitLemmas.{at_zip_all}
use Rattle.stripe_recovery.proofs.SlotLemmas.{unseized-below}
use Rattle.stripe_recovery.proofs.slots.unseized.Goals as goal

value : goal.returns-clause-value
value c =
    sym (append-nil c.loop-i.kept.items)
    ∙ ap (λ xs. c.loop-i.kept.items ++ xs) (sym (at_zip_all unseized c.args.units.now c.args.grants.now c.loop-i.i (omega arith)))
    ∙ c.loop-i.invariant.1

pub returns-clause-value : goal.returns-clause-value
returns-clause-value c = value c

pub returns-clause-within : goal.returns-clause-within
returns-clause-within c = λ m h. rw (value c) (unseized-below m c.args.units.now c.args.grants.now h)
