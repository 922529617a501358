use Rattle.std.proofs.Common.{ℕ, ◌+◌, List, length, ap, sym, subst, arith, ◌∙◌, length-append}
use Rattle.std.specs.Prelude.{All}
use Rattle.std.proofs.lemmas.List.Elements.{All-push}
use Rattle.block_store.specs.declared.memory.MemoryStore.{MemoryStore}
use Rattle.bay_device.specs.declared.bay.Bay.{Bay}
use Rattle.host_workers.proofs.TestLemmas.{IsNewBay, new-bays, rack-for}
use Rattle.host_workers.proofs.tests.new_rack.Goals as goal

pub make-requires-clause-new : goal.make-requires-clause-new
make-requires-clause-new c = new-bays c.args.script.now.rows c.loop.bays.items c.loop.invariant.4

pub returns-in-Ok-clause-rack : goal.returns-in-Ok-clause-rack
returns-in-Ok-clause-rack c =
    let inv = c.loop.invariant in
    rack-for c.args.script.now c.loop.bays.items c.in-Ok.made.0 c.requires inv.4 (omega (arith, inv.0, inv.1, inv.2, c.loop-test.false)) c.in-Ok.ensures.bays

pub loop-preserved : goal.loop-preserved
loop-preserved c =
    let inv = c.loop.invariant in
    let more = c.push_reserved.ensures.items in
    let new = c.in_ok-new_bay.ensures in (
      inv.0,
      omega (arith, inv.1, c.loop-test.true),
      ap length more ∙ length-append c.loop.bays.items _ ∙ ap (λ (k : ℕ). k + 1) inv.2,
      omega (arith, inv.3, c.push_reserved.ensures.capacity),
      subst (λ (l : List (Bay MemoryStore _)). All (IsNewBay c.args.script.now.rows) l) (sym more)
          (All-push (IsNewBay c.args.script.now.rows) c.loop.bays.items _ inv.4 (record { journal = new.new.0; clock = new.new.1; rows_are = new.rows })),
    )
