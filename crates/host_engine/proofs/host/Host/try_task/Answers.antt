use Rattle.std.proofs.Common.{refl, sym, ◌∙◌, ap, ◌+◌}
use Rattle.place_numbers.specs.declared.Numbers.{Numbers}
use Rattle.raid_base.specs.Numbers.{seen_drawn}
use Rattle.histories.specs.Progress.{one_more}
use Rattle.host_engine.proofs.HostLemmas.{stands-tried, counts-spent, tried-spent}
use Rattle.host_engine.proofs.host.Host.try_task.Goals as goal

pub returns-in-Ok-clause-begun : goal.returns-in-Ok-clause-begun
returns-in-Ok-clause-begun c = λ script host p h first rest.
    let drawn = sym c.draw.ensures.value ∙ c.in-Ok.is in
    stands-tried script host c.args.self.now _ p c.args.task.now c.in-Ok.id c.begin.new.self rest h first drawn c.begin.ensures.steps c.begin.ensures.asks c.begin.ensures.suits
    refl refl refl refl refl refl refl refl
    (ap (λ (n : Numbers). n.host) c.draw.ensures.new)
    (ap (λ (n : Numbers). n.seen) c.draw.ensures.new ∙ ap (seen_drawn c.args.self.now.numbers.seen) drawn)
    refl refl refl refl refl

pub returns-in-Err-clause-begun : goal.returns-in-Err-clause-begun
returns-in-Err-clause-begun c = λ script host p h first.
    let drawn = sym c.draw.ensures.value ∙ c.in-Err.is in
    let counted = counts-spent script host c.args.self.now _ p h refl refl refl refl refl refl refl refl
    (ap (λ (n : Numbers). n.host) c.draw.ensures.new)
    (ap (λ (n : Numbers). n.seen) c.draw.ensures.new ∙ ap (seen_drawn c.args.self.now.numbers.seen) drawn)
    refl refl refl in
    (_, c.finish_job.ensures.counts script host (one_more p) counted, λ rest. tried-spent script host p c.args.task.now c.in-Err.spent (c.args.self.now.tries + 1) rest (rw (h.seen, ← h.draws) drawn) (ap (λ n. n + 1) h.tries))
