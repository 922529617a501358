use Rattle.array_cli.proofs.OneReport.{simulated_reports_are_one}
use Rattle.array_cli.proofs.laws.simulated_reports_are_one.Goals as goal

pub returns : goal.returns
returns c = simulated_reports_are_one
