use Rattle.std.proofs.Common.{◌≡◌, length}
use Rattle.report_text.specs.Reading.{all_contents, words_of}
use Rattle.report_text.proofs.ContentReading.{with_front}
use Rattle.report_text.proofs.reading.contents.read_contents.Given as goal

abbrev pub invariant-loop-word : goal.invariant-loop-word
invariant-loop-word l = with_front l.contents.items (all_contents (words_of l.left)) ≡ all_contents (words_of l.text)

abbrev pub decreases-loop-word : goal.decreases-loop-word
decreases-loop-word l = length l.left
