use Rattle.std.proofs.Common.{[], ◌∷◌}
use Rattle.std.specs.Prelude.{codes, decimal}
use Rattle.report_text.specs.Report.{cause_words}
use Rattle.report_text.proofs.Appending.{words-stop, words-then}
use Rattle.report_text.proofs.lines.put_gave.Goals as goal

pub returns-in_err-put_number : goal.returns-in_err-put_number
returns-in_err-put_number g c =
    words-stop (codes "gave" ∷ decimal c.args.tries ∷ []) (cause_words c.args.cause.now) (rw c.from.ensures at c.in_err-put_number.ensures) c.from_residual.ensures.0

pub returns : goal.returns
returns g c = words-then (codes "gave" ∷ decimal c.args.tries ∷ []) (cause_words c.args.cause.now) (rw c.from.ensures at c.in_ok-put_number.ensures) c.put_cause.ensures
