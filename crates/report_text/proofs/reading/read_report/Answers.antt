use Rattle.std.proofs.Common.{◌≡◌, ◌∙◌, ℕ, sym, subst, arith}
use Rattle.report_text.specs.Beginnings.{IsFirstBad}
use Rattle.report_text.proofs.ReadingWords.{same-some}
use Rattle.report_text.proofs.ReportReading.{has-read-more, line-fits, stuck-report, end-report, read-report, first-bad, end-stuck, some-left, none-left}
use Rattle.report_text.proofs.reading.read_report.Goals as goal

pub overflow_add-line : goal.overflow_add-line
overflow_add-line c = let fits = line-fits c.args.bytes.now c.loop-left.left.now c.loop-left.draft c.loop-left.line c.loop-left.invariant c.requires.short in omega arith

pub loop-left-preserved : goal.loop-left-preserved
loop-left-preserved c =
    has-read-more c.args.bytes.now c.loop-left.left.now c.loop-left.draft c.loop-left.line c.in-Ok-Some.later c.in-Ok-Some.rest.now c.loop-left.invariant (rw c.in-Ok-Some.field-0-is at c.in-Ok-Some.ensures.some)

pub returns-in-Ok-None-clause-no_fault : goal.returns-in-Ok-None-clause-no_fault
returns-in-Ok-None-clause-no_fault c = λ report is text line e.
    stuck-report c.args.bytes.now c.loop-left.left.now c.loop-left.draft c.loop-left.line report c.loop-left.invariant (some-left _ c.loop-left-test.ensures) (rw c.in-Ok-None.field-0-is at c.in-Ok-None.ensures.none) is text

pub returns-in-Ok-None-clause-bad : goal.returns-in-Ok-None-clause-bad
returns-in-Ok-None-clause-bad c = λ line e.
    let same : c.loop-left.line ≡ line = cc in
    subst (λ (n : ℕ). IsFirstBad n c.args.bytes.now) same (first-bad c.args.bytes.now c.loop-left.left.now c.loop-left.draft c.loop-left.line c.loop-left.invariant (rw c.in-Ok-None.field-0-is at c.in-Ok-None.ensures.none))

pub returns-in-Some-clause-report : goal.returns-in-Some-clause-report
returns-in-Some-clause-report c =
    read-report c.args.bytes.now c.loop-left.left.now c.loop-left.draft c.loop-left.line c.in-Some.report c.loop-left.invariant (none-left _ c.loop-left-test.ensures) (sym c.in-Some.ensures)

pub returns-in-Some-clause-same : goal.returns-in-Some-clause-same
returns-in-Some-clause-same c = λ report is text.
    same-some c.in-Some.report report (c.in-Some.ensures ∙ end-report c.args.bytes.now c.loop-left.left.now c.loop-left.draft c.loop-left.line report c.loop-left.invariant (none-left _ c.loop-left-test.ensures) is text)

pub returns-in-None-clause-no_fault : goal.returns-in-None-clause-no_fault
returns-in-None-clause-no_fault c = λ report is text line e.
    absurd (cc (end-report c.args.bytes.now c.loop-left.left.now c.loop-left.draft c.loop-left.line report c.loop-left.invariant (none-left _ c.loop-left-test.ensures) is text, c.in-None.ensures))

pub returns-in-None-clause-bad : goal.returns-in-None-clause-bad
returns-in-None-clause-bad c = λ line e.
    let same : c.loop-left.line ≡ line = cc in
    subst (λ (n : ℕ). IsFirstBad n c.args.bytes.now) same
    (first-bad c.args.bytes.now c.loop-left.left.now c.loop-left.draft c.loop-left.line c.loop-left.invariant (end-stuck c.loop-left.draft c.loop-left.left.now (none-left _ c.loop-left-test.ensures)))
