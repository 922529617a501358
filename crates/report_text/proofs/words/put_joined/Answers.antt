use Rattle.std.proofs.Common.{refl}
use Rattle.report_text.proofs.Appending.{appends-stops, appends-then}
use Rattle.report_text.proofs.words.put_joined.Goals as goal

pub returns-in_err-put : goal.returns-in_err-put
returns-in_err-put g c = appends-stops _ _ c.in_err-put.ensures c.from_residual.ensures.0 refl

pub returns : goal.returns
returns g c = appends-then c.in_ok-put.ensures c.put_words.ensures refl
