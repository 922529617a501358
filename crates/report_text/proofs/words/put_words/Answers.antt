use Rattle.std.proofs.Common.{arith}
use Rattle.std.proofs.lemmas.List.Folds.{flat_map-map}
use Rattle.text_lines.specs.Lines.{spaced}
use Rattle.report_text.proofs.Appending.{appends-turn, appends-fails, appends-all}
use Rattle.report_text.proofs.words.put_words.Goals as goal

pub returns-in_err-put_word : goal.returns-in_err-put_word
returns-in_err-put_word g c =
    rw flat_map-map (appends-fails (λ w. spaced w.now) c.args.words.now c.loop-word.word-index _ (omega arith) c.loop-word.invariant c.in_err-put_word.ensures c.from_residual.ensures.0)

pub loop-word-preserved : goal.loop-word-preserved
loop-word-preserved g c = appends-turn (λ w. spaced w.now) c.args.words.now c.loop-word.word-index _ (omega arith) c.loop-word.invariant c.in_ok-put_word.ensures

pub returns : goal.returns
returns g c = rw flat_map-map (appends-all (λ w. spaced w.now) c.args.words.now c.loop-word.word-index (omega arith) c.loop-word.invariant)
