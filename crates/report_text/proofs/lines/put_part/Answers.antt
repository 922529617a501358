use Rattle.std.proofs.Common.{[], ◌∷◌, refl}
use Rattle.std.specs.Prelude.{codes, decimal}
use Rattle.std.specs.List.{flat_map}
use Rattle.text_lines.specs.Lines.{spaced}
use Rattle.report_text.specs.Report.{cause_words, flags_text}
use Rattle.report_text.proofs.Appending.{appends-stops, appends-then, words-stop, words-then}
use Rattle.report_text.proofs.lines.put_part.Goals as goal

pub returns-in_err-put_number : goal.returns-in_err-put_number
returns-in_err-put_number g c =
    words-stop (codes "part" ∷ decimal c.args.number.0 ∷ []) (flags_text c.args.made c.args.blocks ∷ cause_words c.args.cause.now) c.in_err-put_number.ensures c.from_residual.ensures.0

pub returns-in_err-put_flags : goal.returns-in_err-put_flags
returns-in_err-put_flags g c =
    words-then (codes "part" ∷ decimal c.args.number.0 ∷ []) (flags_text c.args.made c.args.blocks ∷ cause_words c.args.cause.now) c.in_ok-put_number.ensures
    (appends-stops _ (flat_map spaced (cause_words c.args.cause.now)) c.in_err-put_flags.ensures c.from_residual-in_err-put_flags.ensures.0 refl)

pub returns : goal.returns
returns g c =
    words-then (codes "part" ∷ decimal c.args.number.0 ∷ []) (flags_text c.args.made c.args.blocks ∷ cause_words c.args.cause.now) c.in_ok-put_number.ensures
    (appends-then c.in_ok-put_flags.ensures c.put_cause.ensures refl)
