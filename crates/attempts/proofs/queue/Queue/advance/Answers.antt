use Rattle.std.proofs.Common.{◌<◌, length, drop, ap, sym, ◌∙◌, arith, length-drop}
use Rattle.std.proofs.lemmas.List.{drop-drop}
use Rattle.attempts.specs.Pending.{errands_in}
use Rattle.attempts.proofs.queue.Queue.advance.Goals as goal

pub overflow_add-self : goal.overflow_add-self
overflow_add-self c = let fits = c.self.invariant in omega arith

pub invariant_of-self : goal.invariant_of-self
invariant_of-self c =
    let room : 0 < length (drop c.self.inside.at (errands_in c.self.inside.errands)) = rw c.self.view_is c.requires in
    let fits = c.self.invariant in
    (omega (arith, length-drop c.self.inside.at (errands_in c.self.inside.errands)), omega arith)

pub returns : goal.returns
returns c = sym (ap (drop 1) (sym c.self.view_is) ∙ drop-drop 1 c.self.inside.at (errands_in c.self.inside.errands))
