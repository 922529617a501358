use Rattle.std.proofs.Common.{length}
use Rattle.script_text.proofs.Reading.{IsReadTo}
use Rattle.script_text.proofs.read.read_text.Given as goal

abbrev pub invariant-lines : goal.invariant-lines
invariant-lines l = IsReadTo l.bytes l.stage l.script l.line l.left

abbrev pub decreases-lines : goal.decreases-lines
decreases-lines l = length l.left
