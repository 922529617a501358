use Rattle.std.proofs.Common.{take, Ok}
use Rattle.std.specs.List.{flat_map}
use Rattle.script_text.specs.Script.{HostJobs}
use Rattle.text_lines.specs.Lines.{line}
use Rattle.script_text.specs.Text.{host_lines}
use Rattle.text_lines.specs.Writing.{Writes}
use Rattle.script_text.proofs.write.write_hosts.Given as goal

abbrev pub invariant-loop-host : goal.invariant-loop-host
invariant-loop-host g l = Writes g.K.Sink.written g.K.Sink.tells g.K.Sink.faults l.initial.sink l.sink (Ok tt) (flat_map (λ (host : HostJobs). flat_map line (host_lines l.script host)) (take l.host-index l.hosts))
