use Rattle.std.proofs.Common.{◌≡◌, ℕ, ◌+◌, false, List, length, ap, sym, subst, arith, ◌∙◌, length-append}
use Rattle.std.specs.Prelude.{All}
use Rattle.std.proofs.lemmas.List.Elements.{All-push}
use Rattle.host_workers.specs.declared.workers.Worker.{Worker}
use Rattle.host_workers.specs.Workers.{IsAtStart}
use Rattle.host_workers.proofs.tests.new_workers.Goals as goal

pub loop-host-preserved : goal.loop-host-preserved
loop-host-preserved c =
    let inv = c.loop-host.invariant in
    let more = c.push_reserved.ensures.items in (
      c.new_worker.ensures.first.0,
      c.new_worker.ensures.first.1,
      ap length more ∙ length-append c.loop-host.workers.items _ ∙ ap (λ (k : ℕ). k + 1) inv.2,
      omega (arith, inv.3, c.push_reserved.ensures.capacity),
      subst (λ (l : List Worker). All (IsAtStart c.args.script.now c.args.rack.now) l) (sym more)
          (All-push (IsAtStart c.args.script.now c.args.rack.now) c.loop-host.workers.items c.in_ok-new_worker.field-0 inv.4 c.in_ok-new_worker.ensures.start),
      subst (λ (l : List Worker). All (λ (worker : Worker). worker.pass.is_first ≡ false) l) (sym more)
          (All-push (λ (worker : Worker). worker.pass.is_first ≡ false) c.loop-host.workers.items c.in_ok-new_worker.field-0 inv.5 c.in_ok-new_worker.ensures.guest),
    )
