use Rattle.std.specs.List.{flat_map}
use Rattle.script_text.specs.Script.{HostJobs}
use Rattle.text_lines.specs.Lines.{line}
use Rattle.script_text.specs.Text.{host_lines}
use Rattle.text_lines.proofs.WriteLemmas.{handed_on, writes_stopped_item}
use Rattle.script_text.proofs.write.write_hosts.Goals as goal

pub returns-in_err-write_host : goal.returns-in_err-write_host
returns-in_err-write_host g c =
    handed_on _ _ _ _ _ _ _ _ c.from_residual.ensures.0 (writes_stopped_item g.K.Sink.written g.K.Sink.tells g.K.Sink.faults (λ (host : HostJobs). flat_map line (host_lines c.args.script.now host)) c.args.hosts.now c.loop-host.host-index c.host-item.result _ _ _ c.in_err-write_host.field-0.0 c.loop-host-test.true c.host-item.is c.loop-host.invariant c.in_err-write_host.ensures)
