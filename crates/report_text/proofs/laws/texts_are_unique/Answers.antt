use Rattle.report_text.proofs.ReportReading.{texts-unique}
use Rattle.report_text.proofs.laws.texts_are_unique.Goals as goal

pub returns : goal.returns
returns c = texts-unique
