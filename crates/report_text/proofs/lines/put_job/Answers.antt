use Rattle.std.proofs.Common.{[], ◌∷◌, ◌++◌, refl}
use Rattle.std.specs.Prelude.{codes, decimal}
use Rattle.std.specs.List.{flat_map}
use Rattle.text_lines.specs.Lines.{spaced}
use Rattle.report_text.specs.Report.{end_words}
use Rattle.report_text.proofs.Appending.{appends-stops, appends-then, line-append}
use Rattle.report_text.proofs.lines.put_job.Goals as goal

pub returns-in_err-put_job_name : goal.returns-in_err-put_job_name
returns-in_err-put_job_name g c =
    let words = end_words c.args.ended.now.«end» c.args.contents.now c.args.blocks in
    appends-stops _ (flat_map spaced words ++ 10 ∷ []) c.in_err-put_job_name.ensures c.from_residual.ensures.0
    (line-append (codes "job") (decimal c.args.ended.now.host.0 ∷ decimal c.args.ended.now.job ∷ []) words)

pub returns-in_err-put_end : goal.returns-in_err-put_end
returns-in_err-put_end g c =
    let words = end_words c.args.ended.now.«end» c.args.contents.now c.args.blocks in
    appends-then c.in_ok-put_job_name.ensures (appends-stops _ (10 ∷ []) c.in_err-put_end.ensures c.from_residual-in_err-put_end.ensures.0 refl)
    (line-append (codes "job") (decimal c.args.ended.now.host.0 ∷ decimal c.args.ended.now.job ∷ []) words)

pub returns : goal.returns
returns g c =
    let words = end_words c.args.ended.now.«end» c.args.contents.now c.args.blocks in
    appends-then c.in_ok-put_job_name.ensures (appends-then c.in_ok-put_end.ensures c.put.ensures refl)
    (line-append (codes "job") (decimal c.args.ended.now.host.0 ∷ decimal c.args.ended.now.job ∷ []) words)
