use Rattle.script_text.proofs.LineSteps.{end-behind}
use Rattle.script_text.proofs.lines.read_end.Goals as goal

pub returns-in-Some : goal.returns-in-Some
returns-in-Some c = λ script. end-behind script c.args.rest _ c.in-Some.is
