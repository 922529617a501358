use Rattle.std.proofs.Common.{◌∙◌, ◌^◌, ◌<◌, sym, arith}
use Rattle.block_store.proofs.Among.{below_any}
use Rattle.block_store.proofs.failing.FailingStore.call.Goals as goal

pub overflow_add-self : goal.overflow_add-self
overflow_add-self c =
    let among = rw c.deref.ensures.value at c.is_among-fails.ensures in
    let below : c.self.inside.calls < 2 ^ 32 = below_any c.self.inside.failing.items c.self.inside.calls c.self.invariant.1 (sym among ∙ c.if-fails.true) in
    omega (arith, c.self.invariant.0)

pub invariant_of-self : goal.invariant_of-self
invariant_of-self c =
    let among = rw c.deref.ensures.value at c.is_among-fails.ensures in
    let below : c.self.inside.calls < 2 ^ 32 = below_any c.self.inside.failing.items c.self.inside.calls c.self.invariant.1 (sym among ∙ c.if-fails.true) in
    (omega (arith, c.self.invariant.0), c.self.invariant.1)
