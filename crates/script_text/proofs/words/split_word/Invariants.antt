use Rattle.std.proofs.Common.{◌≡◌, false, eqb, take, ℕ}
use Rattle.std.specs.List.{All}
use Rattle.script_text.proofs.words.split_word.Given as goal

abbrev pub invariant-loop-i : goal.invariant-loop-i
invariant-loop-i l = All (λ (byte : ℕ). eqb byte 32 ≡ false) (take l.i l.text)
