use Rattle.script_text.proofs.LineSteps.{room-behind}
use Rattle.script_text.proofs.lines.read_object_or_job.Goals as goal

pub read_job-requires-clause-room : goal.read_job-requires-clause-room
read_job-requires-clause-room c = room-behind c.args.script.now _ c.pop.new.self.items c.in-Some.host c.script.view_is c.requires.hosts c.in-Some.ensures.items
