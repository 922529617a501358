use Rattle.std.proofs.Common.{◌≡◌, ℕ, false, eqb, arith}
use Rattle.std.proofs.lemmas.Bool.{ne_eqb}
use Rattle.std.proofs.lemmas.List.Elements.{All-more}
use Rattle.script_text.proofs.WordTexts.{words-at, words-one}
use Rattle.script_text.proofs.words.split_word.Goals as goal

pub returns-then-byte-eq32 : goal.returns-then-byte-eq32
returns-then-byte-eq32 c = words-at c.args.text.now c.loop-i.i c.loop-i-test.true c.loop-i.invariant c.if-byte-eq32.true

pub loop-i-preserved : goal.loop-i-preserved
loop-i-preserved c = All-more (λ (byte : ℕ). eqb byte 32 ≡ false) c.args.text.now c.loop-i.i 0 c.loop-i-test.true c.loop-i.invariant (ne_eqb _ _ c.if-byte-eq32.false)

pub returns : goal.returns
returns c = words-one c.args.text.now c.loop-i.i c.loop-i-test.false c.loop-i.invariant
