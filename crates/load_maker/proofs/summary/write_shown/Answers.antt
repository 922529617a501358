use Rattle.std.proofs.Common.{◌∙◌, map}
use Rattle.std.specs.List.{flat_map}
use Rattle.text_lines.proofs.WriteLemmas.{writes_text}
use Rattle.report_text.specs.Views.{object_blocks, shown_block}
use Rattle.load_maker.proofs.SummaryTexts.{shown-is}
use Rattle.load_maker.proofs.summary.write_shown.Goals as goal

pub returns : goal.returns
returns g c =
    let script = c.args.view.now.script.now in
    let shown = map (shown_block script.n script.objects c.args.view.now.cells.now c.args.view.now.opened.now) (flat_map (object_blocks script.n) script.objects) in
    writes_text _ _ _ _ _ _ _ _ (shown-is shown c.tally_blocks-tally.result c.as_slice.result.now c.as_slice-2.result.now c.as_slice-3.result.now c.tally_blocks-tally.ensures
    (c.as_slice.ensures.value ∙ c.number_text-lost.ensures)
    (c.as_slice-2.ensures.value ∙ c.number_text-hidden.ensures)
    (c.as_slice-3.ensures.value ∙ c.block_text-sum.ensures.text)) c.write_pieces.ensures
