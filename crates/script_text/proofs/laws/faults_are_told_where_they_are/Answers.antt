use Rattle.script_text.proofs.FirstBad.{first-bad}
use Rattle.script_text.proofs.laws.faults_are_told_where_they_are.Goals as goal

pub returns : goal.returns
returns c = first-bad
