use Rattle.std.proofs.Common.{◌≡◌, false, Option, subst}
use Rattle.std.specs.Prelude.{IfSome}
use Rattle.std.proofs.lemmas.List.Elements.{All-pop}
use Rattle.rack_turns.specs.Passes.{IsPassOf}
use Rattle.host_workers.specs.declared.workers.Worker.{Worker}
use Rattle.host_workers.proofs.tests.end_all.Goals as goal

pub end-requires-clause-guest : goal.end-requires-clause-guest
end-requires-clause-guest c =
    let P : Worker → Type 0 = λ worker. IsPassOf c.args.rack.now worker.pass × (worker.pass.is_first ≡ false) in
    subst (λ (r : Option Worker). IfSome r P) c.in-Some.is (All-pop P c.loop-worker.workers.items c.pop.new.self.items c.pop.result c.pop.ensures.items c.loop-worker.invariant.2).1

pub loop-worker-preserved : goal.loop-worker-preserved
loop-worker-preserved c =
    let P : Worker → Type 0 = λ worker. IsPassOf c.args.rack.now worker.pass × (worker.pass.is_first ≡ false) in
    (c.end.ensures.0, c.end.ensures.1, (All-pop P c.loop-worker.workers.items c.pop.new.self.items c.pop.result c.pop.ensures.items c.loop-worker.invariant.2).0)
