use Rattle.std.proofs.Common.{List, ℕ, subst}
use Rattle.array_cli.specs.Calls.{IsCall, IsLoad, IsNoCall}
use Rattle.array_cli.specs.ThreadRuns.{IsRun}
use Rattle.block_store.specs.contracts.memory.MemoryStoreStore.TheImpl.{ghosts as memory_stores}
use Rattle.array.proofs.run_over.Goals as goal

pub returns-clause-sim : goal.returns-clause-sim
returns-clause-sim g c = λ is.
    subst (λ (stores : List (List (List ℕ))). IsCall g.S.Source g.K.Sink memory_stores c.args.source.now c.array.new.source c.args.sink.now c.array.new.sink stores c.array.result)
    c.in_ok-stores.ensures (c.array.ensures.sim is)

pub returns-clause-run : goal.returns-clause-run
returns-clause-run g c = λ is.
    subst (λ (stores : List (List (List ℕ))). IsRun g.S.Source g.K.Sink memory_stores c.args.source.now c.array.new.source c.args.sink.now c.array.new.sink stores c.array.result)
    c.in_ok-stores.ensures (c.array.ensures.run is)

pub returns-clause-load : goal.returns-clause-load
returns-clause-load g c = λ n is.
    let all = c.array.ensures.load n is in
    (subst (λ (stores : List (List (List ℕ))). IsLoad g.K.Sink memory_stores n c.args.sink.now c.array.new.sink stores c.array.result) c.in_ok-stores.ensures all.0, all.1)

pub returns-clause-others : goal.returns-clause-others
returns-clause-others g c = λ other.
    let none = c.array.ensures.others other in
    (subst (λ (stores : List (List (List ℕ))). IsNoCall stores c.array.result) c.in_ok-stores.ensures none.0, none.1, none.2)
