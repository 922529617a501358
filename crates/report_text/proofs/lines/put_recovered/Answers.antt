use Rattle.std.proofs.Common.{[], ◌∷◌, refl}
use Rattle.std.specs.Prelude.{codes, decimal}
use Rattle.std.specs.List.{flat_map}
use Rattle.text_lines.specs.Lines.{spaced}
use Rattle.report_text.specs.Report.{lost_words, row_word}
use Rattle.report_text.proofs.Appending.{appends-stops, appends-then, words-stop, words-then}
use Rattle.report_text.proofs.lines.put_recovered.Goals as goal

pub returns-in_err-put_number : goal.returns-in_err-put_number
returns-in_err-put_number g c =
    words-stop (codes "recovered" ∷ decimal c.args.number.0 ∷ []) (row_word c.args.closed ∷ lost_words c.args.lost) c.in_err-put_number.ensures c.from_residual.ensures.0

pub returns-in_err-put_word : goal.returns-in_err-put_word
returns-in_err-put_word g c =
    let word = rw c.row_word.ensures at c.in_err-put_word.ensures in
    words-then (codes "recovered" ∷ decimal c.args.number.0 ∷ []) (row_word c.args.closed ∷ lost_words c.args.lost) c.in_ok-put_number.ensures
    (appends-stops _ (flat_map spaced (lost_words c.args.lost)) word c.from_residual-in_err-put_word.ensures.0 refl)

pub returns : goal.returns
returns g c =
    let word = rw c.row_word.ensures at c.in_ok-put_word.ensures in
    words-then (codes "recovered" ∷ decimal c.args.number.0 ∷ []) (row_word c.args.closed ∷ lost_words c.args.lost) c.in_ok-put_number.ensures
    (appends-then word c.put_lost.ensures refl)
