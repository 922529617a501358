use Rattle.std.proofs.Common.{◌≡◌, length}
use Rattle.std.specs.List.{list_all}
use Rattle.script_text.specs.Forms.{is_block, words, words_behind}
use Rattle.script_text.proofs.words.are_blocks.Given as goal

abbrev pub invariant-loop-left : goal.invariant-loop-left
invariant-loop-left l = list_all is_block (words l.text) ≡ list_all is_block (words_behind l.left)

abbrev pub decreases-loop-left : goal.decreases-loop-left
decreases-loop-left l = length (words_behind l.left)
