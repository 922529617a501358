use Rattle.report_text.proofs.ToldTexts.{is-told}
use Rattle.report_text.proofs.laws.told_reports_read_back.Goals as goal

pub returns : goal.returns
returns c = is-told
