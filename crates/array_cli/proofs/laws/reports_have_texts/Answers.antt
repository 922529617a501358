use Rattle.array_cli.proofs.told.ToldReports.{reports_have_texts}
use Rattle.array_cli.proofs.laws.reports_have_texts.Goals as goal

pub returns : goal.returns
returns c = reports_have_texts
