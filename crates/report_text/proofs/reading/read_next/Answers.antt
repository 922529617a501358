use Rattle.std.proofs.Common.{◌≡◌, ◌∙◌, sym, refl}
use Rattle.report_text.proofs.ReportReading.{stuck-open, stuck-other, stuck-next}
use Rattle.report_text.proofs.reading.read_next.Goals as goal

pub returns-in_default-clause-none : goal.returns-in_default-clause-none
returns-in_default-clause-none c = stuck-open c.args.draft c.args.text.now ((rw c.in_default.is at c.first_line.ensures.none).0 refl)

pub returns-in_default-2-clause-none : goal.returns-in_default-2-clause-none
returns-in_default-2-clause-none c =
    let first = c.in-Some.ensures.some in
    stuck-other c.args.draft c.args.text.now c.in-Some.first.line.now c.in-Some.first.rest.now first.0 first.1 (sym c.in_default-2.is ∙ c.in_ok-line.ensures)

pub returns-in-None-clause-none : goal.returns-in-None-clause-none
returns-in-None-clause-none c =
    let first = c.in-Some.ensures.some in
    stuck-next c.args.draft c.args.text.now c.in-Some.first.line.now c.in-Some.first.rest.now c.in-Some-2.line first.0 first.1 (sym c.in-Some-2.is ∙ c.in_ok-line.ensures) (sym c.in-None.is ∙ c.in_ok-later.ensures)
