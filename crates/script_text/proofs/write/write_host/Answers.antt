use Rattle.std.proofs.Common.{◌∙◌, ap, refl}
use Rattle.text_lines.proofs.WriteLemmas.{handed_on, two_first, two_last}
use Rattle.script_text.specs.Script.{HostJobs}
use Rattle.script_text.proofs.WriteTexts.{host_is}
use Rattle.script_text.proofs.write.write_host.Goals as goal

pub returns-in_err-write_numbered : goal.returns-in_err-write_numbered
returns-in_err-write_numbered g c =
    let number = c.from.ensures ∙ ap (λ (h : HostJobs). h.host.0) c.host.view_is in
    handed_on _ _ _ _ _ _ _ _ c.from_residual.ensures.0 (two_first g.K.Sink.written g.K.Sink.tells g.K.Sink.faults _ _ c.in_err-write_numbered.field-0.0 _ _ _ (host_is c.args.script.now c.args.host.now _ _ number refl) c.in_err-write_numbered.ensures)

pub returns : goal.returns
returns g c =
    let number = c.from.ensures ∙ ap (λ (h : HostJobs). h.host.0) c.host.view_is in
    let jobs = c.as_slice.ensures.value ∙ ap (λ (h : HostJobs). h.jobs) c.host.view_is in
    two_last g.K.Sink.written g.K.Sink.tells g.K.Sink.faults _ _ _ _ _ _ _ (host_is c.args.script.now c.args.host.now _ _ number jobs) c.in_ok-write_numbered.ensures c.write_jobs.ensures
