use Rattle.std.proofs.Common.{inl, inr, sym, ◌∙◌}
use Rattle.script_text.proofs.JobSteps.{job-operator, job-fine}
use Rattle.script_text.specs.Steps.{work_value}
use Rattle.script_text.proofs.jobs.job_fault.Goals as goal
use Rattle.script_text.proofs.jobs.job_fault.Goals.{else-is_operators-via-then-is_operators+else-host-ne0, else-is_operators-via-else-is_operators}

pub returns-then-host-ne0 : goal.returns-then-host-ne0
returns-then-host-ne0 c = λ jobs. job-operator c.args.script.now (record { host = c.args.host; jobs = jobs }) c.args.quit (work_value c.args.work.now) (cc) (cc) (cc) c.if-host-ne0.true

pub returns : goal.returns
returns c = λ jobs.
    job-fine c.args.script.now (record { host = c.args.host; jobs = jobs }) c.args.quit (work_value c.args.work.now) (cc) (cc)
    (elim c.else-is_operators.branch [ else-is_operators-via-then-is_operators+else-host-ne0 w ↦ inr w.if-host-ne0.false | else-is_operators-via-else-is_operators w ↦ inl (sym c.is_operators.ensures ∙ w.if-is_operators.false) ])
