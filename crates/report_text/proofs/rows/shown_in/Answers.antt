use Rattle.std.proofs.Common.{false, get_or, ap, sym, ◌∙◌}
use Rattle.raid_base.specs.declared.cells.Shown.TheVariants.{Seen}
use Rattle.degraded_plans.specs.Rows.{shown_cell}
use Rattle.report_text.specs.Rows.{unit_in, row_in}
use Rattle.report_text.proofs.OtherUnits.{unit-got}
use Rattle.report_text.proofs.rows.shown_in.Goals as goal

pub returns-in-Some : goal.returns-in-Some
returns-in-Some c =
    let got = unit-got (unit_in c.args.n c.args.cells.now c.args.row) c.args.n c.args.unit _ c.requires.unit_below (sym c.unit_in.ensures ∙ c.in-Some.is) in
    ap Seen c.content_of.ensures ∙ sym (ap (shown_cell (get_or c.args.opened.now c.args.row.0 false) (row_in c.args.n c.args.cells.now c.args.row) c.args.unit) got)

pub returns-in-None : goal.returns-in-None
returns-in-None c =
    let got = unit-got (unit_in c.args.n c.args.cells.now c.args.row) c.args.n c.args.unit _ c.requires.unit_below (sym c.unit_in.ensures ∙ c.in-None.is) in
    c.shown_missing.ensures ∙ sym (ap (shown_cell (get_or c.args.opened.now c.args.row.0 false) (row_in c.args.n c.args.cells.now c.args.row) c.args.unit) got)
