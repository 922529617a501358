use Rattle.std.proofs.Common.{sym, ap, ◌∙◌}
use Rattle.script_text.specs.Script.{Script}
use Rattle.histories.specs.Plain.{task_parts}
use Rattle.host_engine.specs.Parts.{parts_as_items}
use Rattle.host_engine.proofs.HostLemmas.{begins-parts, begins-refused}
use Rattle.host_engine.proofs.host.Host.access.Goals as goal

pub returns-in-Ok-clause-begun : goal.returns-in-Ok-clause-begun
returns-in-Ok-clause-begun c = λ script host p h first.
    begins-parts script host c.args.task.now _ c.try_task.result p c.try_task.new.self
    (ap (λ (s : Script). task_parts s c.args.task.now) (sym h.plays) ∙ sym c.task_parts.ensures.value ∙ ap parts_as_items c.in-Ok.is) (c.try_task.ensures.begun script host p h first)

pub returns-in-Err-clause-begun : goal.returns-in-Err-clause-begun
returns-in-Err-clause-begun c = λ script host p h first.
    begins-refused script host c.args.task.now c.in-Err.fault p c.finish_job.new.self
    (ap (λ (s : Script). task_parts s c.args.task.now) (sym h.plays) ∙ sym c.task_parts.ensures.value ∙ ap parts_as_items c.in-Err.is)
    (rw (← c.parts_end.ensures) (c.finish_job.ensures.counts script host p h))
