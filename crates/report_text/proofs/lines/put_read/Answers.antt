use Rattle.std.proofs.Common.{[], ◌∷◌, map}
use Rattle.std.specs.Prelude.{codes, decimal}
use Rattle.report_text.specs.Report.{content_text}
use Rattle.report_text.proofs.Appending.{words-stop, words-then}
use Rattle.report_text.proofs.lines.put_read.Goals as goal

pub returns-in_err-put_number : goal.returns-in_err-put_number
returns-in_err-put_number g c =
    words-stop (codes "read" ∷ decimal c.args.number.0 ∷ []) (map content_text c.args.contents.now) c.in_err-put_number.ensures c.from_residual.ensures.0

pub returns : goal.returns
returns g c =
    words-then (codes "read" ∷ decimal c.args.number.0 ∷ []) (map content_text c.args.contents.now) c.in_ok-put_number.ensures c.put_contents.ensures
