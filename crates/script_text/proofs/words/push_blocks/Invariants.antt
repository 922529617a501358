use Rattle.std.proofs.Common.{◌≡◌, ◌++◌, true, map, length}
use Rattle.std.specs.List.{list_all}
use Rattle.script_text.specs.Forms.{block_of, is_block, words, words_behind}
use Rattle.script_text.proofs.words.push_blocks.Given as goal

abbrev pub invariant-loop-left : goal.invariant-loop-left
invariant-loop-left l = record {
  all : list_all is_block (words_behind l.left) ≡ true;
  blocks : l.fn.blocks.items ++ map block_of (words l.text) ≡ l.blocks.items ++ map block_of (words_behind l.left);
}

abbrev pub decreases-loop-left : goal.decreases-loop-left
decreases-loop-left l = length (words_behind l.left)
