use Rattle.std.proofs.Common.{◌∷◌, [], refl}
use Rattle.report_text.proofs.Appending.{appends-stops, appends-then}
use Rattle.report_text.proofs.words.put_line.Goals as goal

pub returns-in_err-put_joined : goal.returns-in_err-put_joined
returns-in_err-put_joined g c = appends-stops _ (10 ∷ []) c.in_err-put_joined.ensures c.from_residual.ensures.0 refl

pub returns : goal.returns
returns g c = appends-then c.in_ok-put_joined.ensures c.put.ensures refl
