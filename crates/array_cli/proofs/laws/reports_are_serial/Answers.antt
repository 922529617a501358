use Rattle.array_cli.proofs.SerialReportLemmas.{reports_are_serial}
use Rattle.array_cli.proofs.laws.reports_are_serial.Goals as goal

pub returns : goal.returns
returns c = reports_are_serial
