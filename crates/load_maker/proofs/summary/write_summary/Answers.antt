use Rattle.std.proofs.Common.{refl}
use Rattle.std.specs.List.{flat_map}
use Rattle.text_lines.proofs.WriteLemmas.{handed_on, two_first, three_second, three_last}
use Rattle.report_text.specs.Views.{object_blocks, report_in, shown_block}
use Rattle.load_maker.proofs.SummaryTexts.{appends-from-writes, summary-is}
use Rattle.load_maker.proofs.summary.write_summary.Goals as goal

pub returns-in_err-write_ends : goal.returns-in_err-write_ends
returns-in_err-write_ends g c =
    let v = c.args.view.now in
    let s = v.script.now in
    let is = summary-is c.args.n (report_in s v.results.now v.contents.now v.turns.now v.cells.now v.opened.now) (shown_block s.n s.objects v.cells.now v.opened.now) (flat_map (object_blocks s.n) s.objects) refl in
    appends-from-writes _ _ _ _ _ _ _ (handed_on _ _ _ _ _ _ _ _ c.from_residual.ensures.0 (two_first g.K.Sink.written g.K.Sink.tells g.K.Sink.faults _ _ c.in_err-write_ends.field-0.0 _ _ _ is c.in_err-write_ends.ensures))

pub returns-in_err-write_course : goal.returns-in_err-write_course
returns-in_err-write_course g c =
    let v = c.args.view.now in
    let s = v.script.now in
    let is = summary-is c.args.n (report_in s v.results.now v.contents.now v.turns.now v.cells.now v.opened.now) (shown_block s.n s.objects v.cells.now v.opened.now) (flat_map (object_blocks s.n) s.objects) refl in
    appends-from-writes _ _ _ _ _ _ _ (handed_on _ _ _ _ _ _ _ _ c.from_residual-in_err-write_course.ensures.0 (three_second g.K.Sink.written g.K.Sink.tells g.K.Sink.faults _ _ _ c.in_err-write_course.field-0.0 _ _ _ _ is c.in_ok-write_ends.ensures c.in_err-write_course.ensures))

pub returns : goal.returns
returns g c =
    let v = c.args.view.now in
    let s = v.script.now in
    let is = summary-is c.args.n (report_in s v.results.now v.contents.now v.turns.now v.cells.now v.opened.now) (shown_block s.n s.objects v.cells.now v.opened.now) (flat_map (object_blocks s.n) s.objects) refl in
    appends-from-writes _ _ _ _ _ _ _ (three_last g.K.Sink.written g.K.Sink.tells g.K.Sink.faults _ _ _ _ _ _ _ _ _ is c.in_ok-write_ends.ensures c.in_ok-write_course.ensures c.write_shown.ensures)
