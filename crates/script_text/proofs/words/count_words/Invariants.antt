use Rattle.std.proofs.Common.{◌≡◌, ◌+◌, ℕ, eqb, take}
use Rattle.std.specs.List.{count_by}
use Rattle.script_text.proofs.words.count_words.Given as goal

abbrev pub invariant-loop-byte : goal.invariant-loop-byte
invariant-loop-byte l = l.count ≡ count_by (λ (byte : ℕ). eqb byte 32) (take l.byte-index l.text) + 1
