use Rattle.std.proofs.Common.{ℕ, eqb, arith, take, length, ap, sym, ◌∙◌, ◌+◌}
use Rattle.std.specs.List.{count_by}
use Rattle.std.proofs.lemmas.List.{take_all}
use Rattle.std.proofs.lemmas.List.Splits.{length-slice_split}
use Rattle.script_text.proofs.words.count_words.Goals as goal

pub returns : goal.returns
returns c = c.loop-byte.invariant ∙ ap (λ xs. count_by (λ (byte : ℕ). eqb byte 32) xs + 1) (take_all c.loop-byte.byte-index c.args.text.now (omega arith)) ∙ sym (length-slice_split (λ (byte : ℕ). eqb byte 32) c.args.text.now)
