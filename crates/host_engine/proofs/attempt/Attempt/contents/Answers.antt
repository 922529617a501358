use Rattle.std.proofs.Common.{sym, ap, ◌∙◌}
use Rattle.raid_base.specs.Steps.{answer}
use Rattle.host_engine.specs.Left.{left_of}
use Rattle.histories.specs.Plain.{contents_in}
use Rattle.host_engine.specs.declared.attempt.Kind.{Kind}
use Rattle.host_engine.proofs.AttemptLemmas.{nothing-written, nothing-restored, nothing-rebuilt}
use Rattle.host_engine.proofs.attempt.Attempt.contents.Goals as goal

pub returns-in-Writing : goal.returns-in-Writing
returns-in-Writing c = λ blocks.
    let now = c.args.self.now in
    sym (ap (λ (k : Kind). contents_in (answer (left_of k now blocks))) c.in-Writing.is ∙ nothing-written now.writing.value blocks)

pub returns-in-Recovering : goal.returns-in-Recovering
returns-in-Recovering c = λ blocks.
    let now = c.args.self.now in
    sym (ap (λ (k : Kind). contents_in (answer (left_of k now blocks))) c.in-Recovering.is ∙ nothing-restored now.recovering.value)

pub returns-in-Mending : goal.returns-in-Mending
returns-in-Mending c = λ blocks.
    let now = c.args.self.now in
    sym (ap (λ (k : Kind). contents_in (answer (left_of k now blocks))) c.in-Mending.is ∙ nothing-rebuilt now.mending.value)
