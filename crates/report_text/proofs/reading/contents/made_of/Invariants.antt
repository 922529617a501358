use Rattle.std.proofs.Common.{◌≡◌, ◌≤◌, drop, length}
use Rattle.report_text.specs.Reading.{made_of}
use Rattle.report_text.proofs.reading.contents.made_of.Given as goal

abbrev pub invariant-loop-left : goal.invariant-loop-left
invariant-loop-left l = record { within : l.left ≤ length l.digits; made : l.made ≡ made_of (drop l.left l.digits) }

abbrev pub decreases-loop-left : goal.decreases-loop-left
decreases-loop-left l = l.left
