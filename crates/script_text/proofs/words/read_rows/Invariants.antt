use Rattle.std.proofs.Common.{◌≡◌, ◌++◌, ℕ, true, ltb, map, length}
use Rattle.std.specs.List.{list_all}
use Rattle.text_lines.specs.Numbers.{is_number}
use Rattle.script_text.specs.Faults.{row_numbers}
use Rattle.script_text.specs.Forms.{value, words, words_behind}
use Rattle.script_text.proofs.words.read_rows.Given as goal

abbrev pub invariant-loop-left : goal.invariant-loop-left
invariant-loop-left l = record {
  numbers : list_all is_number (words_behind l.left) ≡ true;
  rows : row_numbers (map value (words l.text)) ≡ l.rows.items ++ row_numbers (map value (words_behind l.left));
  below : list_all (λ (row : ℕ). ltb row l.end) (map value (words l.text)) ≡ list_all (λ (row : ℕ). ltb row l.end) (map value (words_behind l.left));
}

abbrev pub decreases-loop-left : goal.decreases-loop-left
decreases-loop-left l = length (words_behind l.left)
