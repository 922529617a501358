use Rattle.std.proofs.Common.{◌≡◌, ℕ, List, suc, ◌<◌, ◌+◌, ◌-◌, arith, length, length-drop, drop, Some, take, ap, ◌∙◌, sym}
use Rattle.std.proofs.lemmas.List.{take_all}
use Rattle.report_text.proofs.ReadingWords.{first_word-found, first_word-none}
use Rattle.report_text.proofs.reading.words.take_word.Goals as goal

pub returns-then-byte-eq32 : goal.returns-then-byte-eq32
returns-then-byte-eq32 c =
    let text = c.args.text.now in
    let i = c.loop-i.i in
    let next : suc i ≡ i + 1 = omega arith in
    let rest : take (length text - (i + 1)) (drop (i + 1) text) ≡ drop (i + 1) text = take_all (length text - (i + 1)) (drop (i + 1) text) (omega (arith, length-drop (i + 1) text)) in
    first_word-found text i c.loop-i.invariant c.loop-i-test.true c.if-byte-eq32.true
    ∙ ap (λ (x : List ℕ). Some (take i text, x)) (ap (λ n. drop n text) next ∙ sym rest)

pub returns : goal.returns
returns c = first_word-none c.args.text.now (λ k l. c.loop-i.invariant k (let end = c.loop-i-test.false in omega arith))
