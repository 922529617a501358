use Rattle.std.proofs.Common.{arith}
use Rattle.std.proofs.lemmas.List.Folds.{flat_map-map}
use Rattle.text_lines.specs.Lines.{spaced}
use Rattle.report_text.specs.Report.{content_text}
use Rattle.report_text.proofs.Appending.{appends-turn, appends-fails, appends-all}
use Rattle.report_text.proofs.lines.put_contents.Goals as goal

pub returns-in_err-put_content : goal.returns-in_err-put_content
returns-in_err-put_content g c =
    rw flat_map-map (appends-fails (λ content. spaced (content_text content)) c.args.contents.now c.loop-content.content-index _ (omega arith) c.loop-content.invariant c.in_err-put_content.ensures c.from_residual.ensures.0)

pub loop-content-preserved : goal.loop-content-preserved
loop-content-preserved g c =
    appends-turn (λ content. spaced (content_text content)) c.args.contents.now c.loop-content.content-index _ (omega arith) c.loop-content.invariant c.in_ok-put_content.ensures

pub returns : goal.returns
returns g c = rw flat_map-map (appends-all (λ content. spaced (content_text content)) c.args.contents.now c.loop-content.content-index (omega arith) c.loop-content.invariant)
