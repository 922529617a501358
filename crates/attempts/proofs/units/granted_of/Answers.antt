use Rattle.std.proofs.Common.{◌++◌, append-nil, ap, sym, ◌∙◌, arith}
use Rattle.attempts.specs.Releases.{granted_of}
use Rattle.attempts.proofs.UnitLemmas.{at_zip_all, granted-below}
use Rattle.attempts.proofs.units.granted_of.Goals as goal

value : goal.returns-clause-value
value c =
    sym (append-nil c.loop-i.granted.items)
    ∙ ap (λ xs. c.loop-i.granted.items ++ xs) (sym (at_zip_all granted_of c.args.units.now c.args.grants.now c.loop-i.i (omega arith)))
    ∙ c.loop-i.invariant.1

pub returns-clause-value : goal.returns-clause-value
returns-clause-value c = value c

pub returns-clause-within : goal.returns-clause-within
returns-clause-within c = λ m h. rw (value c) (granted-below m c.args.units.now c.args.grants.now h)
